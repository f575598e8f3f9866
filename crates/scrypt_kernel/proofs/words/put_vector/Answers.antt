use Rattle.std.proofs.Common.{◌≡◌, ◌≢◌, ℕ, ◌+◌, ◌*◌, ◌≤◌, List, length, take, drop, sym, ◌∙◌, arith}
use Rattle.std.proofs.lemmas.List.{length-take-le, length-drop}
use Rattle.std.specs.Simd.Lanes.{put_chunk}
use Rattle.std.proofs.lemmas.Simd.{put_chunk_whole}
use borrow.Rule.Slice.PartMut.{put_mid}
use Rattle.scrypt_kernel.specs.Words.{part}
use Rattle.scrypt_kernel.proofs.PartFacts.{part_put_same, part_put_other}
use Rattle.scrypt_kernel.proofs.words.put_vector.Goals as goal

-- n words from place 4 * k on are replaced
abbrev put : List ℕ → ℕ → ℕ → List ℕ → List ℕ
put x k n from = put_mid (4 * k) n x (put_chunk 0 (take n (drop (4 * k) x)) from)

-- four words are written over four, and each other part stays
four_put : (x from : List ℕ) (k n : ℕ) → n ≡ 4 → 4 * k + 4 ≤ length x → length from ≡ 4
    → (part 4 (put x k n from) k ≡ from) × ((j : ℕ) → j ≢ k → part 4 (put x k n from) j ≡ part 4 x j)
four_put x from k n size room four =
    let long : length (take n (drop (4 * k) x)) ≡ n = length-take-le n (drop (4 * k) x) (omega (arith, length-drop (4 * k) x)) in
    rw (put_chunk_whole (take n (drop (4 * k) x)) from (long ∙ size ∙ sym four)) (
      part_put_same 4 k x from (4 * k) n (omega arith) (omega arith) four (omega arith),
      part_put_other 4 k x from (4 * k) n (omega arith) (omega arith) four (omega arith),
    )

pub returns-clause-written : goal.returns-clause-written
returns-clause-written c = (four_put c.args.x.now c.args.from c.args.k _ (omega arith) c.requires c.fits-from.0).0

pub returns-clause-others : goal.returns-clause-others
returns-clause-others c = (four_put c.args.x.now c.args.from c.args.k _ (omega arith) c.requires c.fits-from.0).1
