use Rattle.std.proofs.Common.{◌≡◌, ◌∷◌, ◌∙◌, sym, rules, arith, length, map, None}
use Rattle.edge_reader.specs.declared.fault.EdgeFault.TheVariants.{Line}
use Rattle.edge_reader.specs.Lines.{entry_of_line, lines_of}
use Rattle.edge_reader.specs.EdgeText.{code_of}
use Rattle.edge_reader.proofs.GatherLaws.{entry_added, few_added, below_added}
use Rattle.edge_reader.proofs.text.read_text.Goals as goal

pub loop-entry-preserved : goal.loop-entry-preserved
loop-entry-preserved c =
    let front = c.loop-entry.list.items in
    let more = c.add.new.list.items in
    let entry = c.in-Some.entry in
    let given = c.args.vertices in
    let count : c.len.result ≡ length front = search rules in
    let fine : code_of given c.args.both (length front) entry ≡ None =
    rw (sym count) (sym c.refusal.ensures ∙ c.in_default-refusal.is) in
    let left = map entry_of_line (lines_of c.loop-entry.rest.now) in
    let behind = map entry_of_line (lines_of c.in-Some.after.now) in
    let first : left ≡ entry ∷ behind = c.in-Some.ensures.entries in
    record {
      rest = entry_added given c.args.both Line c.loop-entry.number front more entry left behind _ first fine
          c.in_ok-add.ensures c.loop-entry.invariant.rest;
      below = below_added given c.args.both front more entry fine c.in_ok-add.ensures c.loop-entry.invariant.below;
      few = few_added given c.args.both front more entry fine c.in_ok-add.ensures c.loop-entry.invariant.few;
      lines = omega (arith, c.loop-entry.invariant.lines, c.in-Some.ensures.shorter);
    }
