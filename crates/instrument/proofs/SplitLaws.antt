-- Segments that hand their carried lets on come to what the whole loop comes to.
use Rattle.std.proofs.Common.{◌≡◌, ◌+◌, ℕ, zero, suc, ℤ, List, [], ◌∷◌, ◌++◌, length, flat_map, refl, sym, ap, subst, ◌∙◌, Option, None, Some, append_assoc, append-nil, arith, length-append}
use Rattle.std.specs.Prelude.{bit_or, slice_get}
use Rattle.vert_base.specs.declared.graph.Edge.{Edge}
use Rattle.vert_base.specs.declared.value.Combine.{Combine}
use Rattle.vert_base.specs.Neighbours.{source}
use Rattle.vert_tree.specs.declared.program.Decl.{Decl}
use Rattle.vert_tree.specs.declared.program.Dense.{Dense}
use Rattle.vert_tree.specs.declared.program.Program.{Program}
use Rattle.vert_tree.specs.Places.{loop_rights}
use Rattle.carry_analysis.specs.declared.classes.Class.{Class}
use Rattle.carry_analysis.specs.declared.classes.Class.TheVariants.{Reduced, Constant, Carried}
use Rattle.carry_analysis.specs.Classes.{body_marks, let_classes}
use Rattle.slot_merge.specs.Combine.{neutral}
use Rattle.vert_eval.specs.declared.environment.Env.{Env}
use Rattle.vert_eval.specs.declared.environment.Flow.{Flow}
use Rattle.vert_eval.specs.declared.environment.Flow.TheVariants.{Going, Broke}
use Rattle.vert_eval.specs.Frames.{SameFrame, beside}
use Rattle.vert_eval.specs.Rounds.{Scene, at_member, loop, neighbour_of, reading, row_at, with_lets}
use Rattle.vert_eval.specs.Runs.{Ran, after, followed_by, leaves, run}
use Rattle.vert_eval.specs.Values.{value_of, word_at}
use Rattle.vert_eval.proofs.FrameLaws.{loop_keeps, loop_within}
use Rattle.vert_eval.proofs.RunLaws.{followed-Broke, followed-Going, loop-append}
use Rattle.instrument.specs.declared.split.SplitLoop.{SplitLoop}
use Rattle.instrument.specs.Loops.{loop_split}
use Rattle.instrument.specs.Segments.{begun, carried_words, given, only_lets, own_words, received_over, left_after, with_neutral, with_received, with_words}
use Rattle.instrument.specs.Continued.{BeginsWithOwn, ComesTogether, Ends, GoesOn, IsSplit, LeavesNeutral, LetsStay, SameOutcome, combined_words, segment, segments, unless_broke, whole, with_segment, with_segments}
use Rattle.instrument.proofs.ActLaws.{Quiet, loop_steady, or_nothing, over, over_ran}
use Rattle.instrument.proofs.MarkLaws.{classes_allow}
use Rattle.instrument.proofs.TypedLaws.{body_stands, length-let_classes}
use Rattle.instrument.proofs.WordLaws.{carried_same, own_are_left, own_over, rejoined, restarted}

-- ---- lengths

length-with_lets : (ds : List Decl) (env : Env) →
    length (with_lets ds env).locals.items ≡ length env.locals.items + length ds
length-with_lets [] env = omega arith
length-with_lets (d ∷ ds) env =
    let more : Env = record env { locals = record { items = env.locals.items ++ value_of d.value env ∷ [] } } in
    omega (arith, length-with_lets ds more, length-append env.locals.items (value_of d.value env ∷ []))

pub length-own : (ds : List Decl) (env : Env) → length (own_words ds env) ≡ length ds
length-own ds env = omega (arith, length-with_lets ds (record env { locals = record { items = [] } }))

length-received_over : (cs : List Class) (ws xs : List ℤ) → length (received_over cs ws xs) ≡ length xs
length-received_over [] ws xs = refl
length-received_over (c ∷ cs) ws [] = refl
length-received_over (c ∷ cs) ws (x ∷ xs) = ap suc (length-received_over cs (left_after c ws) xs)

length-with_received : (cs : List Class) (received : Option (List ℤ)) (xs : List ℤ) →
    length (with_received cs received xs) ≡ length xs
length-with_received cs None xs = refl
length-with_received cs (Some ws) xs = length-received_over cs ws xs

-- the neutral value stands at each reduced let
neutral_at : (cs : List Class) (xs : List ℤ) (i : ℕ) (op : Combine) → length xs ≡ length cs →
    slice_get cs i ≡ Some (Reduced op) → word_at (with_neutral cs xs) i ≡ neutral op
neutral_at [] xs i op e is = cc
neutral_at (c ∷ cs) [] i op e is = absurd (omega arith)
neutral_at (Constant ∷ cs) (x ∷ xs) zero op e is = cc
neutral_at (Carried ∷ cs) (x ∷ xs) zero op e is = cc
neutral_at (Reduced kind ∷ cs) (x ∷ xs) zero op e is = let same : kind ≡ op = cc in ap neutral same
neutral_at (c ∷ cs) (x ∷ xs) (suc i) op e is = neutral_at cs xs i op (omega arith) is

-- ---- outcomes

same_after : (a b c : Ran) → SameOutcome a b → SameOutcome b c → SameOutcome a c
same_after a b c p q = record {
  locals = p.locals ∙ q.locals;
  touched = p.touched ∙ q.touched;
  emitted = p.emitted ∙ q.emitted;
  reads = p.reads ∙ q.reads;
  flow = p.flow ∙ q.flow;
}

same_with : (split : SplitLoop) (a b part : Ran) → SameOutcome a b →
    SameOutcome (with_segment split a part) (with_segment split b part)
same_with split a b part p = record {
  locals = ap (λ l. combined_words split.classes.locals.items l part.env.locals.items) p.locals;
  touched = ap (λ t. bit_or t part.env.touched) p.touched;
  emitted = ap (λ es. es ++ part.emitted) p.emitted;
  reads = ap (λ us. us ++ part.reads) p.reads;
  flow = refl;
}

-- ---- one dense block

module _ (d : Dense) (env : Env) where
  abbrev cs : List Class
  cs = let_classes 0 d.lets.items (body_marks d.body.items)

  abbrev first : Env
  first = only_lets d.lets.items env

  abbrev own : List ℤ
  own = own_words d.lets.items env

  abbrev begin : Option (List ℤ) → Env
  begin received = begun (loop_split d) d.lets.items received env

  abbrev gives : Ran → List ℤ
  gives r = given (loop_split d) r.env

  as_many : length cs ≡ length own
  as_many = length-let_classes 0 d.lets.items (body_marks d.body.items) ∙ sym (length-own d.lets.items env)

  pub begins : BeginsWithOwn d env
  begins = ap (λ words. let e : Env = record (with_words (with_neutral cs words) first) { touched = 0 } in e)
      (sym (own_over cs own))

  pub ends : (s : Scene) → Ends s d env
  ends s a b broke = loop-append s d.body.items a b first
      ∙ followed-Broke (whole s d env a) (loop s d.body.items b) broke

  quiet_begin : (received : Option (List ℤ)) → Quiet cs (begin received)
  quiet_begin received = record {
    each = λ i op is clear. neutral_at cs (with_received cs received own) i op
        (length-with_received cs received own ∙ sym as_many) is;
  }

  pub neutrals : (s : Scene) → LeavesNeutral s d env
  neutrals s received members i op is clear =
      ((loop_steady cs s d.body.items members (classes_allow d.lets.items (body_marks d.body.items))).quiet
      (begin received) (quiet_begin received)).each i op is clear

  module _ (p : Program) (h : IsSplit p d env) where
    pub left : (s : Scene) → LetsStay s d env
    left s members = (loop_steady cs s d.body.items members (classes_allow d.lets.items (body_marks d.body.items))).left
        own first (own_are_left cs own as_many h.words)

    -- what is combined with a segment that begins where the loop stands is the loop's own environment, at
    -- each neighbour
    at_same : (s : Scene) (a : List Edge) (e : Edge) →
        let w : Env = (whole s d env a).env in
        at_member s e (over cs w.locals.items w.touched (begin (Some (gives (whole s d env a))))) ≡ at_member s e w
    at_same s a e =
        let w : Env = (whole s d env a).env in
        let placed = body_stands p d h.typed h.dense in
        let frame : SameFrame (beside first w) w = loop_keeps s d.body.items a first in
        let within = loop_within loop_rights placed.0 s d.body.items a first placed.1 in
        let row : w.row ≡ first.row = within.fields refl in
        let next : w.next_active ≡ first.next_active = within.active refl in
        let words : combined_words cs w.locals.items (restarted cs own w.locals.items) ≡ w.locals.items =
        rejoined cs own w.locals.items (left s a) in
        λ i. record {
          id = sym frame.id i;
          n = sym frame.n i;
          round = sym frame.round i;
          indeg = sym frame.indeg i;
          outdeg = sym frame.outdeg i;
          draws = sym frame.draws i;
          row = sym row i;
          next_active = sym next i;
          locals = record { items = words i };
          touched = or_nothing w.touched i;
          other = neighbour_of s.graph (source e) e.weight;
          other_row = row_at s.rows (source e);
          sends = sym frame.sends i;
          slots = sym frame.slots i;
          totals = sym frame.totals i;
          key = sym frame.key i;
        }

    moved : (s : Scene) (a : List Edge) (e : Edge) (es : List Edge) →
        let w : Env = (whole s d env a).env in
        loop s d.body.items (e ∷ es) w ≡ over_ran cs w.locals.items w.touched
        (segment s d env (Some (gives (whole s d env a))) (e ∷ es))
    moved s a e es =
        let w : Env = (whole s d env a).env in
        ap (λ m. followed_by (reading (source e) (run d.body.items m)) (loop s d.body.items es)) (sym (at_same s a e))
        ∙ (loop_steady cs s d.body.items (e ∷ es) (classes_allow d.lets.items (body_marks d.body.items))).same
        w.locals.items w.touched (begin (Some (gives (whole s d env a))))

    continued : (s : Scene) (a b : List Edge) →
        SameOutcome (after (whole s d env a) (loop s d.body.items b (whole s d env a).env))
        (with_segment (loop_split d) (whole s d env a) (segment s d env (Some (gives (whole s d env a))) b))
    continued s a [] = record {
      locals = sym (rejoined cs own (whole s d env a).env.locals.items (left s a));
      touched = sym (or_nothing (whole s d env a).env.touched);
      emitted = refl;
      reads = refl;
      flow = refl;
    }
    continued s a (e ∷ es) =
        subst (λ r. SameOutcome (after (whole s d env a) r)
        (with_segment (loop_split d) (whole s d env a) (segment s d env (Some (gives (whole s d env a))) (e ∷ es))))
        (sym (moved s a e es))
        (record { locals = refl; touched = refl; emitted = refl; reads = refl; flow = refl })

    pub goes_on : (s : Scene) → GoesOn s d env
    goes_on s a b going =
        subst (λ r. SameOutcome r
        (with_segment (loop_split d) (whole s d env a) (segment s d env (Some (gives (whole s d env a))) b)))
        (sym (loop-append s d.body.items a b first ∙ followed-Going (whole s d env a) (loop s d.body.items b) going))
        (continued s a b)

    -- one segment more, begun with what stands for what the loop gives
    one_more : (s : Scene) (a b : List Edge) (so_far : Ran) (received : Option (List ℤ)) →
        (whole s d env a).flow ≡ Going → SameOutcome (whole s d env a) so_far →
        begin received ≡ begin (Some (gives (whole s d env a))) →
        SameOutcome (whole s d env (a ++ b)) (with_segment (loop_split d) so_far (segment s d env received b))
    one_more s a b so_far received going same begun_so =
        same_after (whole s d env (a ++ b)) (with_segment (loop_split d) (whole s d env a) (segment s d env received b))
        (with_segment (loop_split d) so_far (segment s d env received b))
        (subst (λ e. SameOutcome (whole s d env (a ++ b))
        (with_segment (loop_split d) (whole s d env a) (loop s d.body.items b e))) (sym begun_so)
        (goes_on s a b going))
        (same_with (loop_split d) (whole s d env a) so_far (segment s d env received b) same)

    -- where a segment broke there is no other
    module _ (s : Scene) (a b : List Edge) (now : Ran) (rest : List Ran) where
      by_end : (flow : Flow) → now.flow ≡ flow → SameOutcome (whole s d env a) now →
          (now.flow ≡ Going → SameOutcome (whole s d env (a ++ b)) (with_segments (loop_split d) now rest)) →
          SameOutcome (whole s d env (a ++ b)) (with_segments (loop_split d) now (unless_broke now.flow rest))
      by_end Broke e same onward =
          subst (λ f. SameOutcome (whole s d env (a ++ b)) (with_segments (loop_split d) now (unless_broke f rest)))
          (sym e)
          (subst (λ r. SameOutcome r now) (sym (ends s a b (same.flow ∙ e))) same)
      by_end Going e same onward =
          subst (λ f. SameOutcome (whole s d env (a ++ b)) (with_segments (loop_split d) now (unless_broke f rest)))
          (sym e) (onward e)

    all_parts : (s : Scene) (parts : List (List Edge)) (a : List Edge) (so_far : Ran) (received : Option (List ℤ)) →
        (whole s d env a).flow ≡ Going → SameOutcome (whole s d env a) so_far →
        begin received ≡ begin (Some (gives (whole s d env a))) →
        SameOutcome (whole s d env (a ++ flat_map (λ part. part) parts))
        (with_segments (loop_split d) so_far (segments s d env received parts))
    all_parts s [] a so_far received going same begun_so =
        subst (λ l. SameOutcome (whole s d env l) so_far) (sym (append-nil a)) same
    all_parts s ([] ∷ parts) a so_far received going same begun_so =
        all_parts s parts a so_far received going same begun_so
    all_parts s ((e ∷ es) ∷ parts) a so_far received going same begun_so =
        let part = segment s d env received (e ∷ es) in
        let now = with_segment (loop_split d) so_far part in
        let rest = flat_map (λ part. part) parts in
        let same_now : SameOutcome (whole s d env (a ++ (e ∷ es))) now =
        one_more s a (e ∷ es) so_far received going same begun_so in
        let handed : carried_words cs part.env.locals.items ≡ gives (whole s d env (a ++ (e ∷ es))) =
        sym (ap (carried_words cs) same_now.locals ∙ carried_same cs so_far.env.locals.items part.env.locals.items) in
        subst (λ l. SameOutcome (whole s d env l)
        (with_segments (loop_split d) now (unless_broke part.flow (segments s d env (Some (gives part)) parts))))
        (append_assoc a (e ∷ es) rest)
        (by_end s (a ++ (e ∷ es)) rest now (segments s d env (Some (gives part)) parts) part.flow refl same_now
        (λ on. all_parts s parts (a ++ (e ∷ es)) now (Some (gives part)) (same_now.flow ∙ on) same_now
        (ap (λ words. begin (Some words)) handed)))

    pub together : (s : Scene) → ComesTogether s d env
    together s parts = all_parts s parts [] (leaves first) None refl
        (record { locals = refl; touched = refl; emitted = refl; reads = refl; flow = refl }) begins
