use Rattle.password_hash.proofs.McfFacts.{IsMcfText-from_parts, IsMcfText-read, IsId-parts}
use Rattle.password_hash.proofs.mcf.hash_ref.is_mcf.Goals as goal

pub returns-in-Some : goal.returns-in-Some
returns-in-Some c = record {
  exact = (
    λ good. (_, _, IsMcfText-from_parts _ _ _ c.in-Some.ensures (c.is_id.ensures.0 good)),
    λ is. c.is_id.ensures.1 (IsId-parts _ _ _ c.in-Some.ensures is),
  );
  reading = λ good. IsMcfText-read _ (_, _, IsMcfText-from_parts _ _ _ c.in-Some.ensures (c.is_id.ensures.0 good));
}
