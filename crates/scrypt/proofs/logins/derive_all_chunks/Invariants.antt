use Rattle.std.proofs.Common.{◌≡◌, ◌+◌, ◌++◌, length, take}
use Rattle.scrypt.specs.Terms.{AreHashed, all_cost, all_of, attempts, chunks_cost, chunks_of}
use Rattle.scrypt.proofs.logins.derive_all_chunks.Given as goal

-- the chunks of the first are written, and those of the others follow
abbrev pub invariant-loop-login : goal.invariant-loop-login
invariant-loop-login l =
    let others = attempts l.left in
    record {
      written : take l.at l.chunks ++ all_of chunks_of others ≡ all_of chunks_of (attempts l.logins);
      fits : l.at + length (all_of chunks_of others) ≡ length l.chunks;
      counted : (after : _) → AreHashed (all_cost chunks_cost others) l.cores after
          → AreHashed (all_cost chunks_cost (attempts l.logins)) l.initial.cores after;
    }

abbrev pub decreases-loop-login : goal.decreases-loop-login
decreases-loop-login l = length l.left
