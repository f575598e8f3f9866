use Rattle.std.proofs.Common.{◌≡◌, ◌∙◌, ℕ, List, [], ◌∷◌, Ok, ap, arith, get_or, length, map, refl, rules, sym, w32}
use Rattle.std.proofs.lemmas.Simd.{map-map}
use Rattle.std.proofs.lemmas.Int.{to_z-of_z}
use Rattle.scrypt.specs.Terms.{with_limited_refusal}
use Rattle.scrypt_c.specs.{result_status}
use Rattle.scrypt_c.proofs.logins.verify_batch_with_buffers.Goals as goal

-- a list of four, by its elements
four : {A B : Type 0} (f : A → B) (xs : List A) (d : A) → length xs ≡ 4
    → f (get_or xs 0 d) ∷ f (get_or xs 1 d) ∷ f (get_or xs 2 d) ∷ f (get_or xs 3 d) ∷ [] ≡ map f xs
four f (a ∷ b ∷ c ∷ e ∷ []) d is = refl
four f others d is = absurd (omega (arith, is))

pub returns-clause-verified : goal.returns-clause-verified
returns-clause-verified c =
    let own = c.verify_logins.new in
    record {
      each = rw (
        to_z-of_z w32 c.limited_verdict_status.result (search rules) ∙ c.limited_verdict_status.ensures,
        to_z-of_z w32 c.limited_verdict_status-2.result (search rules) ∙ c.limited_verdict_status-2.ensures,
        to_z-of_z w32 c.limited_verdict_status-3.result (search rules) ∙ c.limited_verdict_status-3.ensures,
        to_z-of_z w32 c.limited_verdict_status-4.result (search rules) ∙ c.limited_verdict_status-4.ensures,
      ) (four (λ v. result_status (with_limited_refusal v)) own.verdicts (Ok tt) c.verify_logins.auto.verdicts
          ∙ sym (map-map result_status with_limited_refusal own.verdicts) ∙ ap (map result_status) c.verify_logins.ensures.verdicts ∙ map-map _ _ _);
      left = c.verify_logins.ensures.left;
    }
