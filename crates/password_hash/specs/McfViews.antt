-- Borrowed MCF strings, as contracts see them.
use Rattle.std.specs.Prelude.{ℕ, List}
use Rattle.password_hash.specs.declared.mcf.fields.Field.{Field}
use Rattle.password_hash.specs.declared.mcf.fields.Fields.{Fields}
use Rattle.password_hash.specs.declared.mcf.hash_ref.PasswordHashRef.{PasswordHashRef}
use Rattle.password_hash.specs.Parts.{parts_left}

-- the text of a borrowed hash
abbrev pub borrowed_text : PasswordHashRef → List ℕ
borrowed_text hash = hash.text.now

-- the text of a field
abbrev pub field_text : Field → List ℕ
field_text field = field.text.now

-- the texts of the fields that an iterator has not returned yet
abbrev pub fields_left : Fields → List (List ℕ)
fields_left fields = parts_left fields.left
