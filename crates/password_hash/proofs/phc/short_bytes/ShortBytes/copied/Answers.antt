use Rattle.std.proofs.lemmas.List.{length-replicate, drop-replicate}
use Rattle.std.proofs.Common.{◌≡◌, ℕ, ◌≤◌, List, ◌++◌, length, drop, replicate, arith, length-append}
use Rattle.std.proofs.Math.Seq.{take-append_seam}
use Rattle.password_hash.specs.ShortBytes.{AreStored}
use Rattle.password_hash.proofs.phc.short_bytes.ShortBytes.copied.Goals as goal

-- what is written at the front of zeros is stored
stored : (least most : ℕ) (new xs : List ℕ) → new ≡ xs → least ≤ length xs → length xs ≤ most
    → AreStored least most (new ++ drop (length xs) (replicate most 0)) (length xs)
stored least most new xs e some fits = grind (arith, drop-replicate, length-append, length-replicate, take-append_seam)

pub invariant_of-result : goal.invariant_of-result
invariant_of-result g c =
    stored g.row.MIN g.row.MAX c.copy_from_slice.new.self c.args.bytes.now c.copy_from_slice.ensures.after (omega arith) (omega arith)
