use Rattle.std.proofs.Common.{◌≡◌, ◌∷◌, arith}
use Rattle.std.proofs.lemmas.Grind.{common_steps}
use Rattle.std.specs.String.{string_bytes}
use Rattle.password_hash.specs.Parts.{dollar}
use Rattle.password_hash.proofs.McfFacts.{IsMcfText-of_id}
use Rattle.password_hash.proofs.mcf.hash.PasswordHash.from_id.Goals as goal

pub invariant_of-result : goal.invariant_of-result
invariant_of-result c =
    let written : string_bytes c.push_str.new.self ≡ dollar ∷ c.args.id.now = grind (arith, common_steps) in
    IsMcfText-of_id _ c.args.id.now written (c.is_id.ensures.0 c.if-not-is_id.false)
