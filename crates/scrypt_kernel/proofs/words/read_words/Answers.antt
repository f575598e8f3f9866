use Rattle.std.proofs.Common.{◌∙◌, sym, arith}
use Rattle.std.proofs.lemmas.List.{ext_get_or}
use Rattle.scrypt_kernel.proofs.WordFacts.{get_or-words_of, length-words_of}
use Rattle.scrypt_kernel.proofs.words.read_words.Goals as goal

pub returns : goal.returns
returns c =
    ext_get_or 0 c.loop-i.words _ (omega (arith, length-words_of c.args.bytes.now))
    (λ k h. c.loop-i.invariant k (omega arith) ∙ sym (get_or-words_of c.args.bytes.now k (omega arith)))
