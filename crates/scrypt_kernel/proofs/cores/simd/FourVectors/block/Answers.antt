use Rattle.std.proofs.Common.{refl, sym, ◌∙◌, arith}
use Rattle.scrypt_kernel.proofs.LaneFacts.{lanes_joined}
use Rattle.scrypt_kernel.proofs.cores.simd.FourVectors.block.Goals as goal

pub returns : goal.returns
returns g c =
    let lanes = g.V.Lanes.lanes in
    let x = c.args.self.now in
    let k = c.args.k in
    let two = c.put_vector-2.ensures in
    let three = c.put_vector-3.ensures in
    let four = c.put_vector-4.ensures in
    sym (lanes_joined (lanes x.a k, lanes x.b k, lanes x.c k, lanes x.d k) c.put_vector-4.new.x (omega arith) (rw (
      four.others 0 (omega arith) ∙ three.others 0 (omega arith) ∙ two.others 0 (omega arith) ∙ c.put_vector.ensures.written
          ∙ c.four.ensures,
      four.others 1 (omega arith) ∙ three.others 1 (omega arith) ∙ two.written ∙ c.four-2.ensures,
      four.others 2 (omega arith) ∙ three.written ∙ c.four-3.ensures,
      four.written ∙ c.four-4.ensures,
    ) refl))
