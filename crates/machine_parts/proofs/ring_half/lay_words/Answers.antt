-- One word more stands in the row.
use Rattle.std.proofs.Common.{◌<◌, [], length, get_or, set, ap, ◌∙◌, arith, rules, w64}
use Rattle.std.proofs.lemmas.Int.{to_z-of_z}
use Rattle.std.proofs.lemmas.List.{get_or-set_same, length-set}
use Rattle.dep_layout.specs.Judgement.{words_in}
use Rattle.machine_parts.proofs.RingLaws.{laid_more, put_again}
use Rattle.machine_parts.proofs.ring_half.lay_words.Goals as goal

pub columns-preserved : goal.columns-preserved
columns-preserved c =
    let first = c.args.words.now.rows in
    let now = c.columns.words.rows in
    let place = c.args.place in
    let so_far = c.columns.invariant in
    let row = get_or now place [] in
    let more = set row c.columns.column c.word_at.result in
    let word = to_z-of_z w64 c.word_at.result (search rules) in
    let put = ap (λ t. t.rows) c.put.ensures ∙ ap (λ w. set now place (set row c.columns.column w)) word in
    let inside : c.args.place < length c.columns.words.rows = omega (arith, c.requires.place, so_far.count) in
    let here = ap (λ rows. get_or rows place []) put ∙ get_or-set_same now place more [] inside in
    let below : c.columns.column < c.args.width = omega (arith, c.columns-test.true) in
    record {
      width = ap (λ t. t.width) c.put.ensures ∙ so_far.width;
      rows = put_again first now c.put.new.self.rows place more c.requires.place so_far.rows put;
      count = ap length put ∙ length-set now place more ∙ so_far.count;
      row = ap length here ∙ length-set row c.columns.column c.word_at.result ∙ so_far.row;
      whole = laid_more c.args.width c.columns.column row _ c.word_at.result c.columns.rest.now _
          (words_in c.args.width c.args.bytes.now) below so_far.row here c.word_at.ensures c.behind-rest.ensures
          so_far.whole;
    }
