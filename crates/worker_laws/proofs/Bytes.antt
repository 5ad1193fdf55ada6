-- The messages that a machine of a run takes are bytes.
use Rattle.std.proofs.Common.{◌≡◌, ℕ, ◌+◌, ◌*◌, ◌^◌, ◌<◌, ◌≤◌, Bool, true, false, ◌&&◌, ℤ, Option, Some, None, List, [], ◌∷◌, ◌++◌, length, map, refl, sym, subst, arith}
use Rattle.std.specs.Prelude.{◌==◌, if◌then◌else◌, is_some, nat_le}
use Rattle.std.specs.Int.{w64, to_le_bytes, cast_unsigned}
use Rattle.std.specs.List.{All, AllByRecursion, flat_map}
use Rattle.std.proofs.lemmas.Bool.{and_parts, leb-true}
use Rattle.std.proofs.lemmas.List.Elements.{All-append, All-cons, All-nil}
use Rattle.vert_base.specs.declared.message.Event.{Event}
use Rattle.vert_base.specs.declared.message.Event.TheVariants.{Go, Take}
use Rattle.vert_base.specs.declared.message.Name.{Name}
use Rattle.vert_base.specs.declared.message.NameKind.{NameKind}
use Rattle.vert_base.specs.declared.message.NameKind.TheVariants.{Refresh, Dep, Update, Push, Tally, Verdict}
use Rattle.vert_base.specs.Letters.{Letter, found}
use Rattle.vert_tree.specs.declared.program.Dense.{Dense}
use Rattle.dep_layout.specs.declared.state.Mark.{Mark}
use Rattle.dep_layout.specs.declared.state.Mark.TheVariants as mark
use Rattle.dep_layout.specs.Spelling.{State as LoopState, bits_of, mark_bytes, mark_of, sent_bytes, sent_of, spelled, word_bytes}
use Rattle.dep_message.specs.Laws.{AreBytes}
use Rattle.body_shape.proofs.ByteLaws.{push_bytes, refresh_bytes, tally_bytes, update_bytes, verdict_bytes}
use Rattle.circulant_plan.specs.Skeleton.{Skeleton}
use Rattle.instrument.specs.declared.split.Split.{Split}
use Rattle.symple_face.specs.Cluster.{IsOneRun, World, all_possible, possible, step}
use Rattle.symple_face.specs.CoreSight.{program_of}
use Rattle.symple_face.specs.CoreTakes.{slot_count}
use Rattle.symple_face.specs.CoreWork.{core_work}
use Rattle.symple_face.specs.Ideal.{body_of_kind, ideal_body, ideal_send}
use Rattle.symple_face.specs.Parts.{PlainPart, push_list}
use Rattle.symple_face.specs.Plans.{blocks_of, concerns, goes_by_plan, is_in_range, is_planned, ring_of, serves}
use Rattle.symple_face.specs.Shapes.{reduced_in}
use Rattle.symple_face.specs.Source.{Source}
use Rattle.symple_face.specs.State.{IsTakeable, State, machine, p_of}
use Rattle.cluster_run.proofs.TakeWorlds as take
use Rattle.work_laws.specs.Sound.{core_sound}
use Rattle.work_laws.proofs.Whole.{core_lawful}
use Rattle.schedule_laws.specs.Events.{IsTrue}
use Rattle.schedule_laws.specs.Runs.{IsSourceRun}
use Rattle.schedule_laws.proofs.Follows.{Follows, few, taker, taker_at}
use Rattle.schedule_laws.proofs.Printing.{next_follows}
use Rattle.schedule_laws.proofs.SourceSees.{suits}
use Rattle.schedule_laws.proofs.Stands.{few as few_rounds}
use Rattle.worker_stream.specs.Prompt.{handed, taken_by}
use Rattle.worker_stream.proofs.StateWalks.{planned}
use Rattle.worker_laws.proofs.Taking.{letter_body}
use Rattle.state_laws.proofs.Options.{some_of}
use Rattle.schedule_laws.specs.OutputText.{next_by}

abbrev IsByte : ℕ → Type 0
IsByte b = b < 256

-- ---- loop states
all_from : (bytes : List ℕ) → AllByRecursion IsByte bytes → All IsByte bytes
all_from [] each = All-nil IsByte
all_from (b ∷ bytes) each = All-cons IsByte b bytes each.0 (all_from bytes each.1)

eight : (n : ℕ) → All IsByte (to_le_bytes w64 n)
eight n = all_from (to_le_bytes w64 n) (
  omega arith,
  (omega arith, (omega arith, (omega arith, (omega arith, (omega arith, (omega arith, (omega arith, tt))))))),
)

word : (w : ℤ) → All IsByte (word_bytes w)
unfolding word_bytes
word w = eight (cast_unsigned w64 w)

words : (ws : List ℤ) → All IsByte (flat_map word_bytes ws)
words [] = All-nil IsByte
words (w ∷ ws) = All-append IsByte (word_bytes w) (flat_map word_bytes ws) (word w) (words ws)

bits : (a : Mark) → bits_of a ≤ 2
bits mark.Fresh = omega arith
bits mark.Running = omega arith
bits mark.Broken = omega arith

marks : (ms : List Mark) → All IsByte (mark_bytes ms)
marks [] = All-nil IsByte
marks (a ∷ []) = let x = bits a in All-cons IsByte (bits_of a) [] (omega arith) (All-nil IsByte)
marks (a ∷ b ∷ []) =
    let x = bits a in let y = bits b in
    All-cons IsByte (bits_of a + 4 * bits_of b) [] (omega arith) (All-nil IsByte)
marks (a ∷ b ∷ c ∷ []) =
    let x = bits a in let y = bits b in let z = bits c in
    All-cons IsByte (bits_of a + 4 * bits_of b + 16 * bits_of c) [] (omega arith) (All-nil IsByte)
marks (a ∷ b ∷ c ∷ d ∷ ms) =
    let x = bits a in let y = bits b in let z = bits c in let u = bits d in
    All-cons IsByte (bits_of a + 4 * bits_of b + 16 * bits_of c + 64 * bits_of d) (mark_bytes ms) (omega arith)
    (marks ms)

states : (ss : List LoopState) → All IsByte (flat_map sent_bytes ss)
states [] = All-nil IsByte
states (s ∷ ss) =
    All-append IsByte (sent_bytes s) (flat_map sent_bytes ss) (words (sent_of s.mark s.words)) (states ss)

spelled_bytes : (ss : List LoopState) → AreBytes (spelled ss)
spelled_bytes ss =
    All-append IsByte (mark_bytes (map mark_of ss)) (flat_map sent_bytes ss) (marks (map mark_of ss)) (states ss)

-- ---- ideal bodies
module _ (src : Source) (run : IsSourceRun src) (p m : ℕ) (x : Name) (plan : is_planned src.split p m x ≡ true) where
  by_plan : (serves (blocks_of src.split) x.kind ≡ true)
      × (is_in_range (blocks_of src.split).limit x.kind x.round ≡ true)
  by_plan =
      let a = and_parts (concerns p m x) _ plan in
      let b = and_parts (goes_by_plan (ring_of src.split p) x.kind x) _ a.1 in
      let c = and_parts (serves (blocks_of src.split) x.kind) _ b.1 in
      (c.0, c.1)

  update : x.kind ≡ Update → AreBytes (body_of_kind Update src x)
  update is =
      let served : (blocks_of src.split).dense ≡ true =
      subst (λ q. serves (blocks_of src.split) q ≡ true) is by_plan.0 in
      let block : (d : Dense) × (src.job.program.dense ≡ Some d) =
      some_of src.job.program.dense (subst (λ q. is_some q.dense ≡ true) run.program served) in
      let range : (nat_le 1 x.round && nat_le x.round (program_of src.split).limit) ≡ true =
      subst (λ q. is_in_range (program_of src.split).limit q x.round ≡ true) is by_plan.1 in
      let within : x.round ≤ (program_of src.split).limit =
      leb-true x.round (program_of src.split).limit (and_parts (nat_le 1 x.round) _ range).1 in
      let low : x.round ≤ src.job.program.limit = subst (λ q. x.round ≤ q.limit) run.program within in
      let all = few_rounds src run in
      let small : x.round < 2 ^ 31 = omega (arith, low, all) in
      update_bytes (slot_count src.split) (length (reduced_in src.split.dense)) _
      (suits src run x.round small block.0 block.1 x.to x.from x.half x.step).1

  body_by : (k : NameKind) → x.kind ≡ k → AreBytes (body_of_kind k src x)
  body_by Refresh is = refresh_bytes _
  body_by Dep is = spelled_bytes _
  body_by Update is = update is
  body_by Push is =
      push_bytes (map (ideal_send src x.round) (push_list src.job.graph.ends x.from x.to src.job.graph.edges))
  body_by Tally is = tally_bytes _
  body_by Verdict is = verdict_bytes _

  ideal_bytes : AreBytes (ideal_body src x)
  ideal_bytes = body_by x.kind refl

-- ---- all that a machine takes
handed_bytes : (b : Bool) (l : Letter) (ls : List Letter) → AreBytes l.body →
    AllByRecursion (λ (q : Letter). AreBytes q.body) ls →
    AllByRecursion (λ (q : Letter). AreBytes q.body) ((if b then l ∷ [] else []) ++ ls)
handed_bytes true l ls one all = (one, all)
handed_bytes false l ls one all = all

module _ (src : Source) (parts : List PlainPart) (one : IsOneRun parts) (run : IsSourceRun src)
    (same_ends : src.job.graph.ends ≡ one.ends) (m : ℕ) where
  letter_bytes : (w : World) (k : Skeleton) (f : Follows src parts w k) (x : Name) (l : Letter) →
      found x w.under_way ≡ Some l → AreBytes l.body
  letter_bytes w k f x l there =
      let s : State = taker src parts one run same_ends w k f x l there in
      let able : IsTakeable s l =
      take.takeable core_work core_sound core_lawful src.split parts (few src parts one run same_ends) one w k f.alike
      f.reached x l there in
      let truth : IsTrue src x.to s = f.machines x.to s (taker_at src parts one run same_ends w k f x l there) in
      let plan : is_planned src.split (p_of s) (machine s) l.name ≡ true =
      subst (λ (q : Split). is_planned q (p_of s) (machine s) l.name ≡ true) truth.ideal.split (planned s l able) in
      subst (λ (body : List ℕ). AreBytes body) (sym (letter_body src parts one run same_ends w k f x l there))
      (ideal_bytes src run (p_of s) (machine s) l.name plan)

  pub taken_bytes : (es : List Event) (w : World) (k : Skeleton) → Follows src parts w k →
      all_possible core_work w es ≡ true → AllByRecursion (λ (q : Letter). AreBytes q.body) (taken_by core_work m w es)
  taken_bytes [] w k f all = tt
  taken_bytes (Go j ∷ es) w k f all =
      let can = and_parts (possible w (Go j)) (all_possible core_work (step core_work w (Go j)) es) all in
      taken_bytes es (step core_work w (Go j)) (next_by src k (Go j))
      (next_follows src parts one run same_ends w k f (Go j) can.0) can.1
  taken_bytes (Take x ∷ es) w k f all =
      let can = and_parts (possible w (Take x)) (all_possible core_work (step core_work w (Take x)) es) all in
      let l = some_of (found x w.under_way) can.0 in
      let more : List Letter = taken_by core_work m (step core_work w (Take x)) es in
      subst (λ (o : Option Letter). AllByRecursion (λ (q : Letter). AreBytes q.body) (handed m o ++ more)) (sym l.1)
      (handed_bytes (l.0.name.to == m) l.0 more (letter_bytes w k f x l.0 l.1)
      (taken_bytes es (step core_work w (Take x)) (next_by src k (Take x))
      (next_follows src parts one run same_ends w k f (Take x) can.0) can.1))
