use Rattle.std.proofs.Common.{length, sym, ap, ◌∙◌}
use Rattle.vert_types.specs.Filled.{program_filled}
use Rattle.vert_types.specs.Parsed.{program_known}
use Rattle.vert_types.specs.Scopes.{what_at}
use Rattle.vert_types.proofs.CheckLaws.{all_found, all_known, table_wide, typed_is, typing_is}
use Rattle.vert_types.proofs.NameLaws.{declared}
use Rattle.vert_types.proofs.program.check.Goals as goal

pub meanings_of-requires : goal.meanings_of-requires
meanings_of-requires c = declared c.args.program c.requires

pub check_bodies-requires-clause-scope : goal.check_bodies-requires-clause-scope
check_bodies-requires-clause-scope c = record {
  wide = ap length c.deref.ensures.value ∙ table_wide c.args.program c.requires c.in_ok-meanings.meanings.items
      c.in_ok-meanings.ensures.table;
  apart = c.requires.apart;
}

pub returns-in-Some-clause-refused : goal.returns-in-Some-clause-refused
returns-in-Some-clause-refused c =
    sym (all_found c.args.program c.requires c.in_ok-meanings.meanings.items c.in_ok-meanings.ensures.table
    c.deref.result.now c.check_header.new.found.first c.meanings_of.new.found.first c.check_bodies.new.found.first
    c.deref.ensures.value c.check_header.ensures c.in_ok-meanings.ensures.faults c.check_bodies.ensures)
    ∙ c.in-Some.is

pub fill_program-requires : goal.fill_program-requires
fill_program-requires c =
    ap (λ m. program_known (length m) c.args.program) c.deref-2.ensures.value
    ∙ all_known c.args.program c.requires c.in_ok-meanings.meanings.items c.in_ok-meanings.ensures.table

pub invariant_of-result : goal.invariant_of-result
invariant_of-result c =
    let p = c.args.program in
    let q = c.fill_program.new.program in
    let h = c.fill_program.ensures in
    let table = c.in_ok-meanings.meanings.items in
    let is = c.in_ok-meanings.ensures.table in
    let found = all_found p c.requires table is c.deref.result.now c.check_header.new.found.first
    c.meanings_of.new.found.first c.check_bodies.new.found.first c.deref.ensures.value c.check_header.ensures
    c.in_ok-meanings.ensures.faults c.check_bodies.ensures in
    let filled = sym (ap (λ m. program_filled (what_at m) q) c.deref-2.ensures.value) ∙ h.filled in
    record { typed = typed_is p c.requires table is q h.same h.names filled (sym c.in_default.is ∙ found) }

pub returns-clause-accepted : goal.returns-clause-accepted
returns-clause-accepted c =
    let p = c.args.program in
    let q = c.fill_program.new.program in
    let h = c.fill_program.ensures in
    let table = c.in_ok-meanings.meanings.items in
    let is = c.in_ok-meanings.ensures.table in
    let found = all_found p c.requires table is c.deref.result.now c.check_header.new.found.first
    c.meanings_of.new.found.first c.check_bodies.new.found.first c.deref.ensures.value c.check_header.ensures
    c.in_ok-meanings.ensures.faults c.check_bodies.ensures in
    let filled = sym (ap (λ m. program_filled (what_at m) q) c.deref-2.ensures.value) ∙ h.filled in
    typing_is p c.requires table is q h.same h.names filled (sym c.in_default.is ∙ found)
