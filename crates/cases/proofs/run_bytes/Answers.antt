use Rattle.std.proofs.Common.{sym, length-take-le}
use Rattle.cases.proofs.Laws.{words_inside}
use Rattle.cases.proofs.run_bytes.Goals as goal

pub slice_bounds-words-end : goal.slice_bounds-words-end
slice_bounds-words-end g c = words_inside c.args.bytes.now c.input_room-words.ensures c.words_of-count.ensures c.requires

pub slice_bounds-run_cases-end : goal.slice_bounds-run_cases-end
slice_bounds-run_cases-end g c = sym (length-take-le _ _ (words_inside c.args.bytes.now c.input_room-words.ensures c.words_of-count.ensures c.requires))
