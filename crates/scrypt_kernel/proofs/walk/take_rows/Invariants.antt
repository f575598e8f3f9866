use Rattle.std.proofs.Common.{◌≡◌, ℕ, ◌<◌, ◌*◌, ◌/◌, ◌%◌, ◌^◌, get_or, length}
use Rattle.scrypt_kernel.specs.{integerify, part, permuted, place}
use Rattle.scrypt_kernel.proofs.walk.take_rows.Given as goal

abbrev pub invariant-chunks : goal.invariant-chunks
invariant-chunks g l =
    let o = g.O.OrderedBlocks in
    record {
      long : length l.starts ≡ 4;
      begin : (i : ℕ) → i < l.k → get_or l.starts i 0
          ≡ place o.count (integerify (permuted o.inverse_pivot (part l.len l.x i)) % 2 ^ l.log_n / 2 ^ l.s) i * l.len;
    }
