-- Steps of a key, one after another.
use Rattle.std.proofs.lemmas.Grind.{common_steps}
use Rattle.std.proofs.lemmas.List.{places}
use Rattle.std.proofs.Common.{◌≡◌, ℕ, zero, suc, ◌+◌, ◌-◌, ◌*◌, ◌^◌, ◌<◌, ◌≤◌, List, [], ◌∷◌, ap, arith, inl, inr, length, refl}
use Rattle.std.specs.Prelude.{All, Bool, IsTrue, ℤ, pos}
use Rattle.std.proofs.Math.Nat.{eq-or-lt_of_le}
use Rattle.std.proofs.lemmas.Bool.{cases_lt}
use Rattle.std.proofs.lemmas.List.Elements.{All-cons, All-head, All-tail}
use Rattle.scrypt.specs.Steps.{all_mixes}
use Rattle.scrypt.specs.Terms.{IsUnderWay, IsWithin, Parameters, are_accepted, chunks_bytes, derived_key, is_output_len}
use Rattle.scrypt.specs.Terms.{lacking}
use Rattle.scrypt.specs.declared.stepping.Progress.{Progress}
use Rattle.scrypt_c.specs.{HasBegun, HasFinished, HasStepped, IsAt, IsBegun, Kept, Session, params_of}

-- k more steps of at least `least` mixes of each chunk are enough: `here` of them end the group, and
-- `each` of them any other
abbrev AreEnough : Parameters → ℕ → ℕ → ℕ → Progress → Type 0
AreEnough c least each k at = at.chunks < c.p
    → (here : ℕ) × (lacking c at ≤ least * here) × (here + (c.p - (at.chunks + at.interleaved)) * each ≤ k)

some_here : (n least here : ℕ) → 0 < n → n ≤ least * here → 0 < here
some_here n least zero some fits = absurd (omega arith)
some_here n least (suc here) some fits = omega arith

same_group : (all mixes count least here rest k : ℕ) → count < all - mixes → least ≤ count → all - mixes ≤ least * here
    → here + rest ≤ suc k → (left : ℕ) × (all - (mixes + count) ≤ least * left) × (left + rest ≤ k)
same_group all mixes count least zero rest k less more fits enough = absurd (omega arith)
same_group all mixes count least (suc here) rest k less more fits enough = grind arith

groups_left : (p done n each : ℕ) → done < p → 0 < n → each + (p - (done + n)) * each ≤ (p - done) * each
groups_left p done n each some more = grind arith

module _ (most : ℕ) (scalar : Bool) (password salt : List ℕ) (log_n r p : ℕ) where
  one_less : (least each k count : ℕ) (old new : Kept) → HasStepped most scalar log_n r p count old new (pos 0)
      → all_mixes log_n ≤ least * each → least ≤ count
      → AreEnough (params_of log_n r p) least each (suc k) old.at → AreEnough (params_of log_n r p) least each k new.at
  one_less least each k count old new step all more enough less =
      let c = params_of log_n r p in
      let before : IsWithin c old.at = (step.before refl).0 in
      let after : IsWithin c new.at = (step.after refl).within.0 in
      let inside : old.at.chunks ≤ p = omega (arith, before.chunks) in
      elim (eq-or-lt_of_le inside) [
        | inl is ↦ absurd (omega (arith, ap (λ (at : Progress). at.chunks) (step.ended refl is), is, less))
        | inr first ↦
            let left = enough first in
            elim (cases_lt count (lacking c old.at)) [
              | inl small ↦ grind (arith, same_group (all_mixes log_n) old.at.mixes count least left.0 _ k small more left.1 left.2)
              | inr whole ↦ grind (arith, some_here, groups_left p new.at.chunks new.at.interleaved each less (after.some less))
            ]
      ]

  -- the key of this password and this salt is under way in the buffers
  abbrev IsGoing : Kept → Type 0
  IsGoing kept = IsAt most scalar (params_of log_n r p) kept.at kept.chunks kept.table kept.scratch
      × IsUnderWay password salt (params_of log_n r p) kept.at kept.chunks kept.table kept.scratch

  -- a step succeeds where a key can go on
  succeeds : (count : ℕ) (old new : Kept) (status : ℤ) → IsTrue (are_accepted log_n r p) → IsGoing old
      → HasStepped most scalar log_n r p count old new status → status ≡ pos 0
  succeeds count old new status good here step = grind (arith, common_steps, places)

  -- steps succeed, and enough of them mix all chunks
  abbrev IsRun : Kept → List (ℕ × ℤ) → Kept → Type 0
  IsRun old steps new = IsGoing new × All (λ (step : ℕ × ℤ). step.1 ≡ pos 0) steps
      × ((least each : ℕ) → all_mixes log_n ≤ least * each → All (λ (step : ℕ × ℤ). least ≤ step.0) steps
      → AreEnough (params_of log_n r p) least each (length steps) old.at → new.at.chunks ≡ p)

  runs : IsTrue (are_accepted log_n r p) → (steps : List (ℕ × ℤ)) (old new : Kept) → IsGoing old
      → Session most scalar log_n r p old steps new → IsRun old steps new
  runs good [] old new going is = grind arith
  runs good (step ∷ steps) old new going (mid, now, later) =
      let ok = succeeds step.0 old mid step.1 good going now in
      let stepped : HasStepped most scalar log_n r p step.0 old mid (pos 0) = rw ok at now in
      let rest = runs good steps mid new (stepped.after refl, stepped.under_way refl password salt going.1) later in (
        rest.0,
        All-cons (λ (step : ℕ × ℤ). step.1 ≡ pos 0) step steps ok rest.1,
        λ least each all large enough.
            let more = All-head (λ (step : ℕ × ℤ). least ≤ step.0) step steps large in
            rest.2 least each all (All-tail (λ (step : ℕ × ℤ). least ≤ step.0) step steps large)
            (one_less least each (length steps) step.0 old mid stepped all more enough),
      )

  pub steps_succeed : (steps : List (ℕ × ℤ)) (begun ended : Kept) → IsTrue (are_accepted log_n r p)
      → IsBegun most scalar password salt (params_of log_n r p) begun.at begun.chunks begun.table begun.scratch
      → Session most scalar log_n r p begun steps ended → All (λ (step : ℕ × ℤ). step.1 ≡ pos 0) steps
  steps_succeed steps begun ended good is session = (runs good steps begun ended (is.here, is.under_way) session).1

  pub steps_mix : (least each : ℕ) (steps : List (ℕ × ℤ)) (begun ended : Kept) → IsTrue (are_accepted log_n r p)
      → IsBegun most scalar password salt (params_of log_n r p) begun.at begun.chunks begun.table begun.scratch
      → Session most scalar log_n r p begun steps ended → All (λ (step : ℕ × ℤ). least ≤ step.0) steps
      → 2 * 2 ^ log_n ≤ least * each → p * each ≤ length steps
      → (ended.at.chunks ≡ p) × (length ended.chunks ≡ chunks_bytes r p)
      × IsUnderWay password salt (params_of log_n r p) ended.at ended.chunks ended.table ended.scratch
  steps_mix least each steps begun ended good is session large all enough =
      let run = runs good steps begun ended (is.here, is.under_way) session in
      let at = begun.at in
      let first : AreEnough (params_of log_n r p) least each (length steps) at = λ less.
      let none : p - at.chunks ≡ p = omega (arith, is.start.0) in
      let others = rw none at (groups_left p at.chunks at.interleaved each less (is.here.within.0.some less)) in
      (each, omega (arith, is.start.1, all), omega (arith, others, enough)) in
      (run.2 least each all large first, run.0.0.fits.chunks_are, run.0.1)

pub steps_end : (most : ℕ) (scalar : Bool) (password salt output key : List ℕ) (log_n r p least each : ℕ) (steps : List (ℕ × ℤ))
    (old begun ended : Kept) (status : ℤ)
    → HasBegun most scalar password salt log_n r p old begun (pos 0) → Session most scalar log_n r p begun steps ended
    → All (λ (step : ℕ × ℤ). least ≤ step.0) steps → 2 * 2 ^ log_n ≤ least * each → p * each ≤ length steps
    → HasFinished password log_n r p ended.chunks ended.at output key status → IsTrue (is_output_len (length output))
    → (status ≡ pos 0) × (key ≡ derived_key password salt log_n r p (length output))
steps_end most scalar password salt output key log_n r p least each steps old begun ended status has session large all enough finished allowed =
    let good : IsTrue (are_accepted log_n r p) = grind arith in
    let mixed = steps_mix most scalar password salt log_n r p least each steps begun ended good (has.begun refl) session large all enough in
    let ok : status ≡ pos 0 = elim finished.one [
      | inl ok ↦ ok
      | inr (inl params) ↦ absurd (finished.params.0 params good)
      | inr (inr (inl buffers)) ↦ absurd ((finished.buffers.0 buffers).1 mixed.1)
      | inr (inr (inr (inl unfinished))) ↦ absurd ((finished.unfinished.0 unfinished).2 mixed.0)
      | inr (inr (inr (inr len))) ↦ absurd ((finished.length_is.0 len).3 allowed)
    ] in
    (ok, finished.value ok salt ended.table ended.scratch mixed.2)
