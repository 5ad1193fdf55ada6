-- How the parts of the check are put together.
use Rattle.std.proofs.Common.{◌≡◌, true, List, [], length, Option, None, sym, ap, ◌∙◌}
use Rattle.std.specs.Global.{Vec}
use Rattle.std.specs.declared.alloc.Global.{Global}
use Rattle.std.specs.declared.string.String.{String}
use Rattle.vert_tree.specs.declared.program.Program.{Program}
use Rattle.vert_tree.specs.Trees.{ProgramTree}
use Rattle.vert_tree.specs.Typed.{is_typed}
use Rattle.vert_tree.specs.Views.{view_program}
use Rattle.vert_types.specs.declared.fault.Finding.{Finding}
use Rattle.vert_types.specs.declared.scope.Meaning.{Meaning}
use Rattle.vert_types.specs.Filled.{IsTyping, is_filled, program_filled, what_of}
use Rattle.vert_types.specs.Findings.{first_from}
use Rattle.vert_types.specs.Parsed.{IsParsed, are_totals, is_counted, is_of_version, is_shallow_program, program_known}
use Rattle.vert_types.specs.Scopes.{beside, what_at}
use Rattle.vert_types.specs.Tables.{all_items, table_after, twice_in}
use Rattle.vert_types.specs.Typing.{all_entries, body_faults, dictionary, faults, first_fault, header_faults, stands_for, twice}
use Rattle.vert_types.proofs.DeclaredLaws.{definitions_are, entries_are}
use Rattle.vert_types.proofs.Definitions.{AreKnown}
use Rattle.vert_types.proofs.NameLaws.{declared, items_known}
use Rattle.vert_types.proofs.ProgramLaws.{none_found, typed}
use Rattle.vert_types.proofs.StatementLaws.{Finds, then_finds}
use Rattle.vert_types.proofs.TellLaws.{blank, same_dictionary, same_twice, same_whats, wide}

module _ (p : Program) (parsed : IsParsed p) (table : List (Option Meaning))
    (is : table ≡ table_after (blank p.names.items) (all_items p)) where
  abbrev names : List (String Global)
  names = p.names.items

  abbrev t : ProgramTree
  t = view_program p

  known : AreKnown (length names) (all_items p)
  known = items_known p (declared p parsed)

  pub table_wide : length table ≡ length names
  table_wide = ap length is ∙ wide names parsed.apart (all_items p) known

  told : beside names table ≡ dictionary t
  told = ap (beside names) is ∙ same_dictionary names parsed.apart (all_items p) known
      ∙ ap stands_for (definitions_are p)

  -- the three parts find the first fault
  pub all_found : (ms : List (Option Meaning)) (a b c : Option Finding) → ms ≡ table →
      a ≡ first_from None (header_faults t) → b ≡ first_from a (twice_in (blank names) (all_items p)) →
      c ≡ first_from b (body_faults (beside names ms) t) → c ≡ first_fault t
  all_found ms a b c lent x y z =
      let header : Finds None (header_faults t) a = record { is = x } in
      let declarations : Finds a (twice [] (all_entries t)) b = record {
        is = y ∙ ap (first_from a) (same_twice names parsed.apart (all_items p) known ∙ ap (twice []) (entries_are p));
      } in
      let bodies : Finds b (body_faults (dictionary t) t) c =
      record { is = z ∙ ap (λ d. first_from b (body_faults d t)) (ap (beside names) lent ∙ told) } in
      (then_finds header (then_finds declarations bodies)).is

  pub all_known : program_known (length table) p ≡ true
  all_known = ap (λ n. program_known n p) table_wide ∙ parsed.known

  module _ (q : Program) (same : view_program q ≡ t) (same_names : q.names ≡ p.names)
      (filled : program_filled (what_at table) q ≡ true) where
    pub filled_is : is_filled q ≡ true
    filled_is =
        let whats : what_of (dictionary (view_program q)) q.names.items ≡ what_at table =
        ap (λ (n : Vec (String Global)). what_of (dictionary (view_program q)) n.items) same_names
        ∙ ap (λ x. what_of (dictionary x) names) same
        ∙ sym (ap (λ d. what_of d names) told)
        ∙ sym (same_whats names table table_wide parsed.apart) in
        ap (λ w. program_filled w q) whats ∙ filled

    pub typed_is : None ≡ first_fault t → is_typed q ≡ true
    typed_is none =
        let clean : faults (view_program q) ≡ [] =
        none_found (faults (view_program q)) (ap first_fault same ∙ sym none) in
        typed q filled_is clean (ap is_shallow_program same ∙ parsed.shallow) (ap is_counted same ∙ parsed.counted)
        (ap is_of_version same ∙ parsed.version) (ap are_totals same ∙ parsed.totals)

    pub typing_is : None ≡ first_fault t → IsTyping p q
    typing_is none = record { accepted = sym none; same = same; names = same_names; filled = filled_is }
