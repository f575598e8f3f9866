-- Written by hand against release 13f of the kit, by the steps of its docs/WALKS.md: the borrow
-- checker does not cover a function that makes a struct whose `impl Model` has `also_owns`.
use mathlib.Core.Path.{refl}
use mathlib.Core.List.{[], ◌∷◌}
use mir.Val.{Val, vstruct, vcons, vunit, vnil}
use base.Fml.{ftrue}
use types.Kit.{‵, raw, ◌⊛◌, ◌$◌, ◌∵◌, !, qed, split, move, drop, suffices, done}
use types.Run.{no_more, and_then, unit_lit, returns, enter}
use types.Part.{agg}
use types.ByLocal.{alloc_all, pass_all, free_all, look_at, sets}
use denote.RattleType.{owns}
use denote.Shadow.{pure_i}
use denote.Triple.Entry.{alive}
use denote.Triple.Walked.{says, ends_at}
use Rattle.std.proofs.raw_atomic.Walks.{proved}
use Rattle.scrypt_kernel.specs.declared.cores.count.CoreCount.{CoreCount}
use Rattle.scrypt_kernel.specs.contracts.cores.count.CoreCount.{the_row}
use Rattle.scrypt_kernel.specs.contracts.cores.count.CoreCount.of as f
use Rattle.scrypt_kernel.proofs.cores.count.CoreCount.of.Statement.{statement}
use Rattle.scrypt_kernel.proofs.cores.count.CoreCount.of.Code as code

pub of_spec : {M : Type 1} → statement M
of_spec 𝓤 𝓛 𝓜 𝓡 wired =
    let c = f.clauses 𝓛 𝓜.mem 𝓡.returns in
    proved 𝓛 f.ended tt c 𝓜 𝓡 tt f.Key.name code.function (code.unfolded 𝓤 𝓛.H 𝓜 𝓡 wired)
    (λ κs. tt) (λ κs. tt) (λ κs qs bounds a n are.
    let made : CoreCount = record { seal = tt; all = n.0; lanes = n.1; compressions = n.2 } in
    let stored : Val = vstruct (vcons vunit vnil) in
    qed 𝓛 ((raw (alive 𝓛 f.signature κs qs) ⊛ ‵ (owns [] a tt)) ∷ ‵ ftrue ∷ []) ∵
    split ! $ move ! (2 ∷ []) $ drop ! $ enter ! _ _ _ _ _ $ alloc_all ! (λ l. pass_all ! refl tt $
    sets ! (agg ! (and_then ! (unit_lit !) (no_more !))) refl (tt, (tt, tt)) $
    returns ! (look_at ! 0 refl) $ free_all ! refl $
    suffices ! _ (ends_at 𝓛 f.ended tt c ((κs, qs, bounds, a, tt), n) stored made tt tt) $ says ! (refl, refl, refl) $
    pure_i ! (the_row.own_val made (stored ∷ [])) ((λ vss. (tt, (tt, tt))), tt) (((vunit ∷ [], tt), (refl, (refl, tt))), tt) $
    move ! (1 ∷ 2 ∷ 0 ∷ []) $ done !))
