use Rattle.std.proofs.Common.{◌≡◌, ◌∷◌, ◌++◌, arith}
use Rattle.std.proofs.lemmas.Grind.{common_steps}
use Rattle.std.specs.String.{string_bytes}
use Rattle.password_hash.specs.Parts.{dollar}
use Rattle.password_hash.proofs.McfFacts.{IsMcfText-pushed}
use Rattle.password_hash.proofs.mcf.hash.PasswordHash.push_str.Goals as goal

pub invariant_of-self-2 : goal.invariant_of-self-2
invariant_of-self-2 c =
    let before = string_bytes c.self.inside.text in
    let written : string_bytes c.push_str.new.self ≡ before ++ dollar ∷ c.args.field.now = grind (arith, common_steps) in
    IsMcfText-pushed before _ c.args.field.now written c.self.invariant (c.is_field.ensures.0 c.if-not-is_field.false)
