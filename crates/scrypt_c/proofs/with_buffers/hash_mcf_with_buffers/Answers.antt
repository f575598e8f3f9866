use Rattle.std.proofs.Common.{◌∙◌, arith, rules, sym}
use Rattle.scrypt.proofs.AcceptedFacts.{leb_decided}
use Rattle.scrypt.proofs.McfTextFacts.{made_mcf_len}
use Rattle.scrypt_c.proofs.MadeFacts.{enough_of, is_hashed, len_is, written_ascii}
use Rattle.scrypt_c.specs.Made.{AreHashParams, wanted}
use Rattle.scrypt_c.proofs.with_buffers.hash_mcf_with_buffers.Goals as goal

pub returns-clause-made : goal.returns-clause-made
returns-clause-made c =
    let wants = wanted c.args.log_n c.args.r c.args.p c.args.key_len in
    let made = rw c.in-Ok.ensures.value at c.in-Ok-hash_with_buffers.ensures in
    let accepted : AreHashParams c.args.log_n c.args.r c.args.p c.args.key_len = search rules in
    is_hashed accepted tt (enough_of _ _ _ _ made.len)
    (written_ascii _ _ _ _ (len_is _ _ _ _ made.len ∙ sym (made_mcf_len wants c.args.password.now c.args.salt.now)) made.made made.ascii)

pub returns-in_default-hash_with_buffers-clause-made : goal.returns-in_default-hash_with_buffers-clause-made
returns-in_default-hash_with_buffers-clause-made c = grind (arith, leb_decided)
