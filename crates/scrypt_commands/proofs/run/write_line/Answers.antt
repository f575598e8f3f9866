use Rattle.std.proofs.Common.{◌+◌, drop, ap, ◌∙◌, sym, drop-drop, take-add}
use Rattle.std.proofs.lemmas.List.{take_rest}
use Rattle.std.proofs.KnownBytes.{Appends-kept, Appends-trans}
use Rattle.scrypt_commands.proofs.run.write_line.Goals.{in-Ok, in-Err+else-ne}
use Rattle.scrypt_commands.proofs.run.write_line.Goals as goal

pub writes-preserved : goal.writes-preserved
writes-preserved g c =
    let (done, rest_is, appended) = c.writes.invariant in
    elim c.match-write.branch [
      | in-Ok w ↦ let n = w.in-Ok.n in
          rw w.rest-is (
            done + n,
            take_rest _ n ∙ ap (drop n) rest_is ∙ drop-drop n done _,
            rw (take-add done n _, sym rest_is) (Appends-trans _ _ _ _ _ appended w.in-Ok.ensures.bytes),
          )
      | in-Err+else-ne w ↦ rw w.rest-is (done, rest_is, Appends-kept _ _ _ _ appended w.in-Err.ensures.bytes)
    ]
