use Rattle.std.specs.Prelude.{replicate}
use Rattle.std.proofs.lemmas.Str.{IsUtf8-from_ascii}
use Rattle.base64.proofs.EngineFacts.{IsAscii-encode_of, encoded_prefix}
use Rattle.base64.specs.Engines.{standard_no_pad}
use Rattle.password_hash.specs.Phc.{base64}
use Rattle.password_hash.proofs.phc.text.push_letters.Goals as goal

pub unreachable-requires-in_default-from_utf8 : goal.unreachable-requires-in_default-from_utf8
unreachable-requires-in_default-from_utf8 c =
    let bytes = c.args.bytes.now in
    let text = encoded_prefix (base64 bytes) (replicate 86 0) c.encode_slice.new.output _ c.in-Ok.len c.encode_slice.result _
    c.encode_slice.auto.output c.encode_slice.ensures.fits c.encode_slice.ensures.too_small c.in-Ok.is c.in-Ok.ensures.written in
    c.in_default-from_utf8.ensures.cases.0 (rw text (IsUtf8-from_ascii (base64 bytes) (IsAscii-encode_of standard_no_pad bytes)))
