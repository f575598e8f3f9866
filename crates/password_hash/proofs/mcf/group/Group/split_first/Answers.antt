use Rattle.std.proofs.Common.{◌≡◌, ◌-◌, sym, arith, length, take, drop}
use Rattle.password_hash.proofs.GroupFacts.{cut_at, no_group, begins_with_group}
use Rattle.password_hash.proofs.mcf.group.Group.split_first.Goals as goal
use Rattle.password_hash.proofs.mcf.group.Group.split_first.Goals.{After-split_at, then-len-eq0-via-then-len-eq0, then-len-eq0-via-else-len-eq0+then-number-len-ne0}

cut : (c : After-split_at) → (c.split_at.result.0.now ≡ take 4 c.args.letters.now) × (c.split_at.result.1.now ≡ drop 4 c.args.letters.now)
cut c = grind (arith, cut_at)

pub returns-in_err-number-clause-split : goal.returns-in_err-number-clause-split
returns-in_err-number-clause-split c =
    let at = cut (goal.at.returns-in_err-number-clause-split c).After-split_at in
    rw c.from_residual.ensures (no_group _ (λ number is. cc (c.in_err-number.ensures.value, rw (← at.0) at is.read)))

pub returns-then-len-eq0-clause-split : goal.returns-then-len-eq0-clause-split
returns-then-len-eq0-clause-split c =
    let at = cut (goal.at.returns-then-len-eq0-clause-split c).After-split_at in
    no_group _ (λ number is.
    let group = rw (← at.0) at is in
    elim c.then-len-eq0.branch [
      | then-len-eq0-via-then-len-eq0 w ↦ omega (arith, group.some, w.if-len-eq0.true)
      | then-len-eq0-via-else-len-eq0+then-number-len-ne0 w ↦
          let same : number ≡ c.in_ok-number.number = cc (c.in_ok-number.ensures.value, group.read) in
          let len : length c.split_at.result.0.now - 1 ≡ c.saturating_sub-len.result = omega arith in
          w.if-number-len-ne0.true (rw (len, same) at group.fits)
    ])

pub returns-clause-split : goal.returns-clause-split
returns-clause-split c =
    let at = cut (goal.at.returns-clause-split c).After-split_at in
    let len : length c.split_at.result.0.now - 1 ≡ c.saturating_sub-len.result = omega arith in
    let begins = begins_with_group c.args.letters.now c.in_ok-number.number (rw (← at.0) (record {
      some = omega (arith, len);
      read = sym c.in_ok-number.ensures.value;
      fits = rw len c.if-number-len-ne0.false;
    })) in
    rw (c.to_le_bytes-bytes.ensures, at.1, ← len, at.0) begins
