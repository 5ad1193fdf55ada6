use Rattle.std.proofs.Common.{◌≡◌, ap, sym, ◌∙◌, length}
use Rattle.vert_tree.specs.Places.{Counts}
use Rattle.vert_eval.specs.Values.{counts_of}
use Rattle.instrument.proofs.TypedLaws.{few_in, each_class}
use Rattle.instrument.proofs.split.SplitLoop.begin.Goals as goal

pub begin_lets-requires-clause-room : goal.begin_lets-requires-clause-room
begin_lets-requires-clause-room c = few_in c.args.program.now.program c.args.program.now.typed

pub begin_words-requires : goal.begin_words-requires
begin_words-requires c = record {
  each =
      ap length c.as_slice.ensures.value
      ∙ each_class c.args.self.now c.args.program.now.program.dense c.requires.split
      ∙ sym (ap (λ k. k.locals) c.begin_lets.ensures.counts);
}

pub returns-clause-counts : goal.returns-clause-counts
returns-clause-counts c =
    let lets_env = c.begin_lets.new.env in
    let classes = c.args.self.now.classes.locals.items in
    let many : length c.begin_words.new.words.items ≡ length classes =
    c.begin_words.ensures.count
    ∙ ap (λ k. k.locals) c.begin_lets.ensures.counts
    ∙ sym (each_class c.args.self.now c.args.program.now.program.dense c.requires.split) in
    ap (λ n. let k : Counts = record (counts_of lets_env) { locals = n } in k) many
    ∙ ap (λ k. let l : Counts = record k { locals = length classes } in l) c.begin_lets.ensures.counts
