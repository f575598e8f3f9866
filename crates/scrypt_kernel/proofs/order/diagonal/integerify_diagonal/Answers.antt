use Rattle.std.proofs.Common.{◌≡◌, ℕ, List, ◌<◌, ◌^◌, ◌+◌, ◌-◌, ◌*◌, ◌%◌, length, get_or, sym, ap₂, ◌∙◌, arith, rules}
use Rattle.scrypt_kernel.specs.Diagonal.{inverse_pivot, standard_order}
use Rattle.scrypt_kernel.proofs.OrderFacts.{integerify_low, get_or-permuted, length-permuted}
use Rattle.scrypt_kernel.proofs.order.diagonal.integerify_diagonal.Goals as goal

-- words 0 and 1 of the block that begins at `at`
first_words : (x : List ℕ) (at : ℕ) → at % 16 ≡ 0 → at + 16 ≡ length x
    → (get_or (standard_order x) at 0 ≡ get_or x at 0) × (get_or (standard_order x) (at + 1) 0 ≡ get_or x (at + 13) 0)
first_words x at whole long = (grind (arith, get_or-permuted), grind (arith, get_or-permuted))

pub returns-clause-value : goal.returns-clause-value
returns-clause-value c =
    let x = c.args.x.now in
    let at = length x - 16 in
    let low : get_or x at 0 < 2 ^ 32 = search rules in
    let high : get_or x (at + 13) 0 < 2 ^ 32 = search rules in
    let long = length-permuted inverse_pivot x in
    let words = first_words x at (omega arith) (omega arith) in
    let number = integerify_low (standard_order x) at c.args.log_n (omega arith) (omega arith) (omega arith)
    (rw words.0 low) (rw words.1 high) in
    c.low_bits.ensures.value ∙ sym (number ∙ ap₂ (λ u w. (u + 2 ^ 32 * w) % 2 ^ c.args.log_n) words.0 words.1)
