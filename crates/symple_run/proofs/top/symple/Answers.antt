use Rattle.std.proofs.Common.{None, Some, inl, refl}
use Rattle.command_steps.specs.Faults.{fault_of}
use Rattle.command_steps.specs.Notes.{note_text}
use Rattle.symple_run.proofs.ImagedRuns.{imaged_stores, source_stores}
use Rattle.symple_run.proofs.LeftImages.{tells_images}
use Rattle.command_steps.proofs.LeavesLaws.{weaker}
use Rattle.command_steps.proofs.OrderLaws.{nothing_stored, others_stay}
use Rattle.symple_run.specs.Played.{IsPlayed}
use Rattle.symple_run.specs.SourceRuns.{IsSourceRun}
use Rattle.symple_run.proofs.CoreTasks.{core_runs}
use Rattle.symple_run.proofs.HeadLaws.{alike_by, completes, free_answer, noted_by, written_by}
use Rattle.symple_run.proofs.LinkReplayLaws.{link_replays_gain_the_same}
use Rattle.symple_run.proofs.ReplayLaws.{replays_gain_the_same}
use Rattle.symple_run.proofs.TaskLaws.{played_are, told_are}
use Rattle.symple_words.specs.Views.{words_of}
use Rattle.symple_run.proofs.top.symple.Goals as goal

pub returns-in-Ok-clause-answer : goal.returns-in-Ok-clause-answer
returns-in-Ok-clause-answer g c = record {
  outcome = None;
  leaves = c.in-Ok.ensures.order;
  status_is = refl;
  noted = refl;
}

pub returns-in-Ok-clause-core : goal.returns-in-Ok-clause-core
returns-in-Ok-clause-core g c = λ core. record {
  outcome = None;
  leaves = weaker (IsPlayed g.S.Site.work) IsSourceRun
      (core_runs g.S.Site.work g.S.Site.sound (g.met.S.Site.core core) (record {
        plain = c.chosen_runs_are_complete.ensures.plain;
        drawn = c.chosen_runs_are_complete.ensures.drawn;
        linked = c.drawn_links_are_possible.ensures.possible;
        reach = c.worlds_are_in_order.ensures.reach;
        goes = c.choices_are_in_order.ensures.unfinished;
      }) g.met.S.Restart.restart_lawful c.images_read_back.ensures.ready) _ _ _ _
      c.in-Ok.ensures.order;
  status_is = refl;
  noted = refl;
}

pub returns-in-Ok-clause-complete : goal.returns-in-Ok-clause-complete
returns-in-Ok-clause-complete g c =
    completes (IsPlayed g.S.Site.work) (played_are g.S.Site.work) (words_of c.args.words.now) _ _ None _
    c.in-Ok.ensures.order refl

pub returns-in-Ok-clause-whole : goal.returns-in-Ok-clause-whole
returns-in-Ok-clause-whole g c = λ core.
    completes IsSourceRun told_are (words_of c.args.words.now) _ _ None _
    (weaker (IsPlayed g.S.Site.work) IsSourceRun
    (core_runs g.S.Site.work g.S.Site.sound (g.met.S.Site.core core) (record {
      plain = c.chosen_runs_are_complete.ensures.plain;
      drawn = c.chosen_runs_are_complete.ensures.drawn;
      linked = c.drawn_links_are_possible.ensures.possible;
      reach = c.worlds_are_in_order.ensures.reach;
      goes = c.choices_are_in_order.ensures.unfinished;
    }) g.met.S.Restart.restart_lawful c.images_read_back.ensures.ready) _ _ _ _
    c.in-Ok.ensures.order) refl

pub returns-in-Ok-clause-others : goal.returns-in-Ok-clause-others
returns-in-Ok-clause-others g c =
    others_stay (IsPlayed g.S.Site.work) (played_are g.S.Site.work) (words_of c.args.words.now) _ _ None
    c.in-Ok.ensures.order

pub returns-in-Ok-clause-quiet : goal.returns-in-Ok-clause-quiet
returns-in-Ok-clause-quiet g c =
    nothing_stored (IsPlayed g.S.Site.work) (played_are g.S.Site.work) (words_of c.args.words.now) _ _ None
    c.in-Ok.ensures.order

pub returns-in-Ok-clause-written : goal.returns-in-Ok-clause-written
returns-in-Ok-clause-written g c = λ asks. inl refl

pub returns-in-Err-clause-written : goal.returns-in-Err-clause-written
returns-in-Err-clause-written g c = λ asks.
    written_by _ _ (fault_of c.in-Err.failure) _ (c.in-Err.ensures.written asks) c.status.ensures

pub returns-in-Ok-clause-free : goal.returns-in-Ok-clause-free
returns-in-Ok-clause-free g c =
    free_answer (IsPlayed g.S.Site.work) (words_of c.args.words.now) _ _ None _
    c.in-Ok.ensures.order refl (alike_by c.order_free_programs.ensures.runs)

pub returns-in-Err-clause-answer : goal.returns-in-Err-clause-answer
returns-in-Err-clause-answer g c = record {
  outcome = Some (fault_of c.in-Err.failure);
  leaves = c.in-Err.ensures.order;
  status_is = c.status.ensures;
  noted = noted_by (note_text (fault_of c.in-Err.failure)) c.write_note.result c.write_note.ensures;
}

pub returns-in-Err-clause-core : goal.returns-in-Err-clause-core
returns-in-Err-clause-core g c = λ core. record {
  outcome = Some (fault_of c.in-Err.failure);
  leaves = weaker (IsPlayed g.S.Site.work) IsSourceRun
      (core_runs g.S.Site.work g.S.Site.sound (g.met.S.Site.core core) (record {
        plain = c.chosen_runs_are_complete.ensures.plain;
        drawn = c.chosen_runs_are_complete.ensures.drawn;
        linked = c.drawn_links_are_possible.ensures.possible;
        reach = c.worlds_are_in_order.ensures.reach;
        goes = c.choices_are_in_order.ensures.unfinished;
      }) g.met.S.Restart.restart_lawful c.images_read_back.ensures.ready) _ _ _ _
      c.in-Err.ensures.order;
  status_is = c.status.ensures;
  noted = noted_by (note_text (fault_of c.in-Err.failure)) c.write_note.result c.write_note.ensures;
}

pub returns-in-Err-clause-complete : goal.returns-in-Err-clause-complete
returns-in-Err-clause-complete g c =
    completes (IsPlayed g.S.Site.work) (played_are g.S.Site.work) (words_of c.args.words.now) _ _
    (Some (fault_of c.in-Err.failure)) _
    c.in-Err.ensures.order c.status.ensures

pub returns-in-Err-clause-whole : goal.returns-in-Err-clause-whole
returns-in-Err-clause-whole g c = λ core.
    completes IsSourceRun told_are (words_of c.args.words.now) _ _ (Some (fault_of c.in-Err.failure)) _
    (weaker (IsPlayed g.S.Site.work) IsSourceRun
    (core_runs g.S.Site.work g.S.Site.sound (g.met.S.Site.core core) (record {
      plain = c.chosen_runs_are_complete.ensures.plain;
      drawn = c.chosen_runs_are_complete.ensures.drawn;
      linked = c.drawn_links_are_possible.ensures.possible;
      reach = c.worlds_are_in_order.ensures.reach;
      goes = c.choices_are_in_order.ensures.unfinished;
    }) g.met.S.Restart.restart_lawful c.images_read_back.ensures.ready) _ _ _ _
    c.in-Err.ensures.order) c.status.ensures

pub returns-in-Err-clause-others : goal.returns-in-Err-clause-others
returns-in-Err-clause-others g c =
    others_stay (IsPlayed g.S.Site.work) (played_are g.S.Site.work) (words_of c.args.words.now) _ _
    (Some (fault_of c.in-Err.failure))
    c.in-Err.ensures.order

pub returns-in-Err-clause-quiet : goal.returns-in-Err-clause-quiet
returns-in-Err-clause-quiet g c =
    nothing_stored (IsPlayed g.S.Site.work) (played_are g.S.Site.work) (words_of c.args.words.now) _ _
    (Some (fault_of c.in-Err.failure))
    c.in-Err.ensures.order

pub returns-in-Ok-clause-replays : goal.returns-in-Ok-clause-replays
returns-in-Ok-clause-replays g c =
    replays_gain_the_same g.S.Site.work g.S.Site.sound g.met.S.Site.lawful (record {
      plain = c.chosen_runs_are_complete.ensures.plain;
      drawn = c.chosen_runs_are_complete.ensures.drawn;
      linked = c.drawn_links_are_possible.ensures.possible;
      reach = c.worlds_are_in_order.ensures.reach;
      goes = c.choices_are_in_order.ensures.unfinished;
    })

pub returns-in-Err-clause-replays : goal.returns-in-Err-clause-replays
returns-in-Err-clause-replays g c =
    replays_gain_the_same g.S.Site.work g.S.Site.sound g.met.S.Site.lawful (record {
      plain = c.chosen_runs_are_complete.ensures.plain;
      drawn = c.chosen_runs_are_complete.ensures.drawn;
      linked = c.drawn_links_are_possible.ensures.possible;
      reach = c.worlds_are_in_order.ensures.reach;
      goes = c.choices_are_in_order.ensures.unfinished;
    })

pub returns-in-Ok-clause-links_replay : goal.returns-in-Ok-clause-links_replay
returns-in-Ok-clause-links_replay g c =
    link_replays_gain_the_same g.S.Site.work g.S.Site.sound g.met.S.Site.lawful (record {
      plain = c.chosen_runs_are_complete.ensures.plain;
      drawn = c.chosen_runs_are_complete.ensures.drawn;
      linked = c.drawn_links_are_possible.ensures.possible;
      reach = c.worlds_are_in_order.ensures.reach;
      goes = c.choices_are_in_order.ensures.unfinished;
    })

pub returns-in-Err-clause-links_replay : goal.returns-in-Err-clause-links_replay
returns-in-Err-clause-links_replay g c =
    link_replays_gain_the_same g.S.Site.work g.S.Site.sound g.met.S.Site.lawful (record {
      plain = c.chosen_runs_are_complete.ensures.plain;
      drawn = c.chosen_runs_are_complete.ensures.drawn;
      linked = c.drawn_links_are_possible.ensures.possible;
      reach = c.worlds_are_in_order.ensures.reach;
      goes = c.choices_are_in_order.ensures.unfinished;
    })

pub returns-in-Ok-clause-images : goal.returns-in-Ok-clause-images
returns-in-Ok-clause-images g c =
    tells_images (IsPlayed g.S.Site.work) (imaged_stores g.S.Site.work) (words_of c.args.words.now) _ _ None _
    c.in-Ok.ensures.order refl

pub returns-in-Err-clause-images : goal.returns-in-Err-clause-images
returns-in-Err-clause-images g c =
    tells_images (IsPlayed g.S.Site.work) (imaged_stores g.S.Site.work) (words_of c.args.words.now) _ _
    (Some (fault_of c.in-Err.failure)) _
    c.in-Err.ensures.order c.status.ensures

pub returns-in-Ok-clause-kept : goal.returns-in-Ok-clause-kept
returns-in-Ok-clause-kept g c = λ core.
    tells_images IsSourceRun source_stores (words_of c.args.words.now) _ _ None _
    (weaker (IsPlayed g.S.Site.work) IsSourceRun
    (core_runs g.S.Site.work g.S.Site.sound (g.met.S.Site.core core) (record {
      plain = c.chosen_runs_are_complete.ensures.plain;
      drawn = c.chosen_runs_are_complete.ensures.drawn;
      linked = c.drawn_links_are_possible.ensures.possible;
      reach = c.worlds_are_in_order.ensures.reach;
      goes = c.choices_are_in_order.ensures.unfinished;
    })
    g.met.S.Restart.restart_lawful c.images_read_back.ensures.ready) _ _ _ _
    c.in-Ok.ensures.order) refl

pub returns-in-Err-clause-kept : goal.returns-in-Err-clause-kept
returns-in-Err-clause-kept g c = λ core.
    tells_images IsSourceRun source_stores (words_of c.args.words.now) _ _
    (Some (fault_of c.in-Err.failure)) _
    (weaker (IsPlayed g.S.Site.work) IsSourceRun
    (core_runs g.S.Site.work g.S.Site.sound (g.met.S.Site.core core) (record {
      plain = c.chosen_runs_are_complete.ensures.plain;
      drawn = c.chosen_runs_are_complete.ensures.drawn;
      linked = c.drawn_links_are_possible.ensures.possible;
      reach = c.worlds_are_in_order.ensures.reach;
      goes = c.choices_are_in_order.ensures.unfinished;
    })
    g.met.S.Restart.restart_lawful c.images_read_back.ensures.ready) _ _ _ _
    c.in-Err.ensures.order) c.status.ensures
