-- A `Value` and an item of `Pairs`, as contracts see them.
use Rattle.std.specs.Prelude.{ℕ, List}
use Rattle.password_hash.specs.declared.phc.ident.Ident.{Ident}
use Rattle.password_hash.specs.declared.phc.value.Value.{Value}

-- the text of a value
abbrev pub value_text : Value → List ℕ
value_text value = value.text.now

-- the name and the value of an item
abbrev pub item_pair : Ident × Value → List ℕ × List ℕ
item_pair item = (item.0, value_text item.1)
