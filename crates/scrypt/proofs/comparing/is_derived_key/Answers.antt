use Rattle.std.proofs.Common.{◌≡◌, ◌-◌, ◌*◌, ◌/◌, ◌+◌, ℕ, List, min, arith, length, refl, replicate, rules, take, take_all, ◌↔◌, ◌&&◌, Bool, true, drop, ◌∙◌, length-take-le, take-add}
use Rattle.std.proofs.lemmas.List.{drop-take, take-take}
use Rattle.scrypt.specs.Terms.{derived_key, end_cost, key_bytes, pbkdf2, stored}
use Rattle.scrypt_kernel.proofs.CountFacts.{hashed_both}
use Rattle.scrypt_kernel.proofs.HashFacts.{more_blocks, no_ends_hashed}
use Rattle.scrypt_kernel.proofs.Pbkdf2Facts.{length-pbkdf2, pbkdf2-piece}
use Rattle.scrypt.proofs.ReadingFacts.{told_right}
use Rattle.scrypt.proofs.comparing.is_derived_key.Goals as goal

-- prefixes agree exactly if both of their parts do
both_agree : (x y : List ℕ) (n m : ℕ) → (take (n + m) x ≡ take (n + m) y) ↔ ((take n x ≡ take n y) × (take m (drop n x) ≡ take m (drop n y)))
both_agree x y n m = grind (arith, take-add n m x, take-add n m y, take-take n (n + m) x (omega arith), take-take n (n + m) y (omega arith), drop-take n m x, drop-take n m y)

-- after one more piece
compared_more : (key whole piece : List ℕ) (at size : ℕ) (before matches : Bool) → length piece ≡ size → piece ≡ take size (drop at whole)
    → (before ≡ true) ↔ (take at key ≡ take at whole) → (matches ≡ true) ↔ (piece ≡ take (length piece) (drop at key))
    → (before && matches ≡ true) ↔ (take (at + size) key ≡ take (at + size) whole)
compared_more key whole piece at size before matches long is so_far here = grind (arith, both_agree key whole at size)

pub loop-i-init : goal.loop-i-init
loop-i-init c = record {
  compared = search rules;
  counted = no_ends_hashed _ (end_cost (length c.args.mixed.now) 4) _ (omega arith);
}

pub loop-i-preserved : goal.loop-i-preserved
loop-i-preserved c =
    let len : ℕ = length (key_bytes c.args.parts.now.key) in
    let password = c.args.password.now in
    let mixed = c.args.mixed.now in
    let at : ℕ = 96 * c.loop-i.i in
    let size : ℕ = c.min-size.result in
    let is_len : len ≡ c.args.parts.now.key_len = c.args.parts.now.len in
    let is_size : size ≡ min (len - at) 96 = omega (arith, c.min-size.ensures) in
    let here : min at len ≡ at = omega (arith, c.div_ceil-i-end.ensures) in
    let next : min (96 * (c.loop-i.i + 1)) len ≡ at + size = omega (arith, is_size) in
    let start : 32 * (3 * c.loop-i.i) ≡ at = omega arith in
    let long = length-take-le {A = ℕ} size (replicate 96 0) (omega (arith, is_size)) in
    let piece = rw (start, long) at (c.write.ensures.value password mixed c.new-blocks.ensures.derived) in
    let blocks : (at + 31) / 32 + (size + 31) / 32 ≡ (at + size + 31) / 32 = omega (arith, next) in
    record {
      compared = rw next (compared_more _ (pbkdf2 password mixed len) c.write.new.out at size _ _ (c.write.auto.out ∙ long)
          (piece ∙ pbkdf2-piece password mixed at size len (omega (arith, here, next))) (rw here at c.loop-i.invariant.compared)
          c.matches_at-same.ensures.exact);
      counted = rw next (hashed_both _ (rw here at c.loop-i.invariant.counted)
          (rw long at (c.write.ensures.counted password mixed c.new-blocks.ensures.derived)) (more_blocks (end_cost (length mixed) 4) _ _ _ blocks));
    }

pub returns : goal.returns
unfolding derived_key
returns c =
    let key = key_bytes c.args.parts.now.key in
    let len : ℕ = length key in
    let is_len : len ≡ c.args.parts.now.key_len = c.args.parts.now.len in
    let all : min (96 * c.loop-i.i) len ≡ len = omega (arith, c.div_ceil-i-end.ensures) in
    let whole = take_all len (pbkdf2 c.args.password.now c.args.mixed.now len) (omega (arith, length-pbkdf2 c.args.password.now c.args.mixed.now len)) in
    record {
      exact = λ mixed. told_right c.args.password.now (stored c.args.parts.now) c.loop-i.same
          (rw mixed at (rw (all, take_all len key (omega arith), whole) at c.loop-i.invariant.compared));
      counted = hashed_both _ c.new-blocks.ensures.counted (rw all at c.loop-i.invariant.counted) refl;
    }
