use Rattle.std.proofs.Common.{◌≡◌, ◌+◌, ◌-◌, ◌*◌, ◌++◌, length, take, drop, ap, sym, ◌∙◌, arith, refl}
use Rattle.std.proofs.lemmas.List.{length-drop, length-take-le, take_at}
use Rattle.std.proofs.Math.Seq.{take-add}
use Rattle.scrypt_kernel.specs.{mixed_in, part, place}
use Rattle.scrypt_kernel.proofs.CountFacts.{counted_both, counted_none}
use Rattle.scrypt_kernel.proofs.BlockMixFacts.{all_turns, no_turn}
use Rattle.scrypt_kernel.proofs.PartFacts.{length-part, part_longer, take_longer}
use Rattle.scrypt_kernel.proofs.RoMixFacts.{adds_row, begun_longer, one_mix, part_of_row, place_inside}
use Rattle.scrypt_kernel.proofs.memory.AllocatedTableMemory.mix_next.Goals as goal

pub turns-init : goal.turns-init
turns-init g c =
    let n = g.O.OrderedBlocks.count in
    let len = c.args.len in
    let i = c.args.i in
    let first = c.args.self.now.memory.items in
    let all = c.make_room.new.self.memory.items in
    let row_len = ap (λ n. n * len) c.count.ensures.value in
    let row_is = rw row_len at c.part.ensures.value in
    record {
      turned = record {
        kept = take_longer _ first all c.requires.last c.make_room.ensures.words;
        mixed = λ k h.
            let room = place_inside n len i (i + 1) k h (omega arith) in
            let b = part len first (place n i k) in
            let long : length b ≡ len = length-part len (place n i k) first (omega (arith, room, c.requires.last)) in
            let input_is = c.of.ensures.parts k (omega (arith, h, c.count-2.ensures.value))
            ∙ ap (λ z. part len z k) row_is ∙ part_of_row n len i k c.as_slice-rows.result.now h
            ∙ ap (λ z. part len z (place n i k)) c.as_slice-rows.ensures.value
            ∙ part_longer len (place n i k) first all (omega (arith, room, c.requires.last)) c.make_room.ensures.words in
            grind (arith, no_turn);
      };
      len = omega (arith, rw row_len at c.make_room.ensures.long);
      room = c.make_room.ensures.room;
      counted = counted_none _ _ _ (omega arith);
    }

pub turns-preserved : goal.turns-preserved
turns-preserved g c =
    let longer = c.lengthen.new.self.memory.items in
    let new = c.take_turn_of_next-x.new.memory in
    let same : length new ≡ length longer = c.take_turn_of_next-x.ensures.len ∙ ap length c.as_mut_slice-memory.ensures.value in
    let is : take c.lengthen.new.self.memory.len (new ++ drop (length new) longer) ≡ new = grind (arith, take_at) in
    let begun = begun_longer longer c.turns.invariant.turned c.turns.invariant.len c.lengthen.ensures.words in
    record {
      turned = rw is (c.take_turn_of_next-x.ensures.turned _ (rw c.as_mut_slice-memory.ensures.value begun));
      len = omega (arith, ap length is, same, c.turns.invariant.len, c.lengthen.ensures.len);
      room = omega (arith, c.turns.invariant.room, c.lengthen.ensures.room);
      counted = counted_both _ c.turns.invariant.counted c.take_turn_of_next-x.ensures.counted (omega arith);
    }

pub returns-clause-words : goal.returns-clause-words
returns-clause-words g c =
    let n = g.O.OrderedBlocks.count in
    let len = c.args.len in
    let i = c.args.i in
    let end = (i + 1) * (n * len) in
    let first = c.args.self.now.memory.items in
    let all = c.turns.self.memory.items in
    let added = take (n * len) (drop end all) in
    let row_long : length added ≡ n * len = grind (arith, length-take-le, length-drop) in
    adds_row added refl c.requires.last row_long
    (rw row_long (take-add end (n * len) all ∙ ap (λ z. z ++ added) c.turns.invariant.turned.kept)) (λ k h.
    let b = part len first (place n i k) in
    let room = place_inside n len i (i + 1) k h (omega arith) in
    let next_room = place_inside n len (i + 1) (i + 2) k h (omega arith) in
    let long : length b ≡ len = length-part len (place n i k) first (omega (arith, room, c.requires.last)) in
    let full = length-part len (place n (i + 1) k) all (omega (arith, next_room, c.turns.invariant.len)) in
    part_of_row n len (i + 1) k all h
    ∙ all_turns g.met.O.OrderedBlocks.inverse b c.requires.row long _ _ _ (omega arith) full (c.turns.invariant.turned.mixed k h)
    ∙ one_mix _ _ b ∙ ap (mixed_in _ _ 1) (sym (part_of_row n len i k first h)))
