-- The lists of a typed program are code, name only what there is, and do what its blocks do.
use Rattle.std.proofs.Common.{◌≡◌, ℕ, ◌+◌, ◌≤◌, Bool, true, ◌&&◌, List, [], ◌∷◌, ◌++◌, length, map, refl, sym, ap, ◌∙◌, subst, arith, Option, Some, None}
use Rattle.std.specs.Prelude.{nat_le, slice_index, slice_index_or}
use Rattle.std.specs.List.{list_all}
use Rattle.std.proofs.lemmas.Bool.{eq-eqb, leb-true}
use Rattle.std.specs.Cmp.Derive.{both_true}
use Rattle.vert_tree.specs.declared.program.Dense.{Dense}
use Rattle.vert_tree.specs.declared.program.Program.{Program}
use Rattle.vert_tree.specs.declared.program.Sparse.{Sparse}
use Rattle.vert_tree.specs.declared.statement.Stmt.{Stmt}
use Rattle.vert_tree.specs.Limits.{body_shallow, decls_shallow, deepest, dense_shallow, expr_shallow, sparse_shallow, stmt_depth}
use Rattle.vert_tree.specs.Places.{Counts, Rights, body_placed, dense_placed, expr_placed, lets_placed, loop_rights, option_all, round_counts, sparse_placed, sparse_rights, tail_rights, update_rights}
use Rattle.vert_tree.specs.Typed.{is_typed}
use Rattle.vert_tree.proofs.TypedLaws.{blocks_limited, blocks_placed, few_fields, few_slots, few_totals, shallow, update_placed}
use Rattle.slot_merge.specs.Combine.{Emission}
use Rattle.vert_eval.specs.declared.environment.Env.{Env}
use Rattle.vert_eval.specs.declared.environment.Flow.{Flow}
use Rattle.vert_eval.specs.declared.environment.Flow.TheVariants.{Going, Broke}
use Rattle.vert_eval.specs.Runs.{Ran, followed_by, leaves, run}
use Rattle.vert_code.specs.declared.instr.Block.{Block}
use Rattle.vert_code.specs.declared.instr.Block.TheVariants.{Loop, Tail, SparseBody, UpdateBody}
use Rattle.vert_code.specs.declared.instr.Instr.{Instr}
use Rattle.vert_code.specs.Blocks.{code_of, counts_in, lets_in, loop_body, place_of, sends_in, sparse_body, statements_of, tail_body}
use Rattle.vert_code.specs.Listing.{block_code}
use Rattle.vert_code.specs.Machine.{goes_on, run_code}
use Rattle.vert_code.specs.Valid.{breaks_where, has_names, heights, is_list, is_valid, list_names, most}
use Rattle.vert_code.proofs.Levels.{Level}
use Rattle.vert_code.proofs.NameLaws.{Within, names_more}
use Rattle.vert_code.proofs.Sound.{body_good, is_allowed, left_true, right_true}

-- ---- one block
append_none : {X : Type 0} (xs : List X) → xs ++ [] ≡ xs
append_none [] = refl
append_none (x ∷ xs) = ap (λ ys. x ∷ ys) (append_none xs)

followed_leaves : (env : Env) (es : List Emission) (us : List ℕ) (flow : Flow) →
    let r : Ran = record { env = env; emitted = es; reads = us; flow = flow } in
    followed_by r leaves ≡ r
followed_leaves env es us Broke = refl
followed_leaves env es us Going =
    ap (λ xs. let r : Ran = record { env = env; emitted = xs; reads = us ++ []; flow = Going } in r) (append_none es)
    ∙ ap (λ xs. let r : Ran = record { env = env; emitted = es; reads = xs; flow = Going } in r) (append_none us)

deepest_low : (body : List Stmt) → body_shallow body ≡ true → deepest (map stmt_depth body) ≤ 64
deepest_low [] h = omega arith
deepest_low (s ∷ ss) h =
    let one = leb-true (stmt_depth s) 64 (left_true (nat_le (stmt_depth s) 64) (body_shallow ss) h) in
    let others = deepest_low ss (right_true (nat_le (stmt_depth s) 64) (body_shallow ss) h) in
    omega arith

module _ (b : Bool) (c : Counts) where
  all_named : (list : List Instr) → list_all (is_allowed b c) list ≡ true → list_names c list ≡ true
  all_named [] h = refl
  all_named (i ∷ is) h =
      both_true (left_true (has_names c i) (breaks_where b i)
      (left_true (is_allowed b c i) (list_all (is_allowed b c) is) h))
      (all_named is (right_true (is_allowed b c i) (list_all (is_allowed b c) is) h))

  all_breaks : (list : List Instr) → list_all (is_allowed b c) list ≡ true → list_all (breaks_where b) list ≡ true
  all_breaks [] h = refl
  all_breaks (i ∷ is) h =
      both_true (right_true (has_names c i) (breaks_where b i)
      (left_true (is_allowed b c i) (list_all (is_allowed b c) is) h))
      (all_breaks is (right_true (is_allowed b c i) (list_all (is_allowed b c) is) h))

module _ (r : Rights) (c : Counts) (body : List Stmt) (placed : body_placed r c body ≡ true) where
  pub block_runs : (env : Env) → run_code (block_code body) env ≡ run body env
  block_runs env =
      let good = body_good r c body placed in
      let done = run body env in
      ap (λ xs. goes_on 0 xs 0 [] env) (sym (append_none (block_code body)))
      ∙ ap (λ f. f [] env) (good.works.works 0 [])
      ∙ followed_leaves done.env done.emitted done.reads done.flow

  pub block_named : list_names c (block_code body) ≡ true
  block_named = all_named r.breaks c (block_code body) ((body_good r c body placed).allowed 0)

  pub block_breaks : list_all (breaks_where r.breaks) (block_code body) ≡ true
  block_breaks = all_breaks r.breaks c (block_code body) ((body_good r c body placed).allowed 0)

  pub block_level : body_shallow body ≡ true → Level 0 0 (block_code body)
  block_level shallow =
      let low = deepest_low body shallow in
      let room : 0 + deepest (map stmt_depth body) ≤ 64 = omega arith in
      subst (Level 0 0) (append_none (block_code body))
      ((body_good r c body placed).rises.rises 0 0 0 [] refl room (record { entry = refl; level = refl }))

-- ---- programs
abbrev rights_of : Block → Rights
rights_of Loop = loop_rights
rights_of Tail = tail_rights
rights_of SparseBody = sparse_rights
rights_of UpdateBody = update_rights

loop_placed : (c : Counts) (o : Option Dense) → option_all (dense_placed c) o ≡ true →
    body_placed loop_rights (record c { locals = lets_in o }) (loop_body o) ≡ true
loop_placed c None h = refl
loop_placed c (Some d) h =
    let inner : Counts = record c { locals = length d.lets.items } in
    let lets = lets_placed c d.lets.items in
    let body = body_placed loop_rights inner d.body.items in
    let tail = body_placed tail_rights inner d.tail.items in
    left_true body tail (right_true lets (body && tail)
    (right_true (expr_placed c d.when_test) (lets && (body && tail)) h))

tail_placed : (c : Counts) (o : Option Dense) → option_all (dense_placed c) o ≡ true →
    body_placed tail_rights (record c { locals = lets_in o }) (tail_body o) ≡ true
tail_placed c None h = refl
tail_placed c (Some d) h =
    let inner : Counts = record c { locals = length d.lets.items } in
    let lets = lets_placed c d.lets.items in
    let body = body_placed loop_rights inner d.body.items in
    let tail = body_placed tail_rights inner d.tail.items in
    right_true body tail (right_true lets (body && tail)
    (right_true (expr_placed c d.when_test) (lets && (body && tail)) h))

sparse_is_placed : (c : Counts) (o : Option Sparse) → option_all (sparse_placed c) o ≡ true →
    body_placed sparse_rights (record c { sends = sends_in o }) (sparse_body o) ≡ true
sparse_is_placed c None h = refl
sparse_is_placed c (Some s) h =
    let sends = list_all (λ d. expr_placed c d.value) s.sends.items in
    let body = body_placed sparse_rights (record c { sends = length s.sends.items }) s.body.items in
    right_true sends body (right_true (expr_placed c s.when_test) (sends && body) h)

loop_shallow : (o : Option Dense) → option_all dense_shallow o ≡ true → body_shallow (loop_body o) ≡ true
loop_shallow None h = refl
loop_shallow (Some d) h =
    let lets = decls_shallow d.lets.items in
    let body = body_shallow d.body.items in
    let tail = body_shallow d.tail.items in
    left_true body tail (right_true lets (body && tail)
    (right_true (expr_shallow d.when_test) (lets && (body && tail)) h))

tail_shallow : (o : Option Dense) → option_all dense_shallow o ≡ true → body_shallow (tail_body o) ≡ true
tail_shallow None h = refl
tail_shallow (Some d) h =
    let lets = decls_shallow d.lets.items in
    let body = body_shallow d.body.items in
    let tail = body_shallow d.tail.items in
    right_true body tail (right_true lets (body && tail)
    (right_true (expr_shallow d.when_test) (lets && (body && tail)) h))

sparse_is_shallow : (o : Option Sparse) → option_all sparse_shallow o ≡ true → body_shallow (sparse_body o) ≡ true
sparse_is_shallow None h = refl
sparse_is_shallow (Some s) h =
    let sends = decls_shallow s.sends.items in
    let body = body_shallow s.body.items in
    right_true sends body (right_true (expr_shallow s.when_test) (sends && body) h)

few_lets : (o : Option Dense) → option_all (λ d. nat_le (length d.lets.items) 8) o ≡ true → lets_in o ≤ 8
few_lets None h = omega arith
few_lets (Some d) h = leb-true (length d.lets.items) 8 h

few_sends : (o : Option Sparse) → option_all (λ s. nat_le (length s.sends.items) 8) o ≡ true → sends_in o ≤ 8
few_sends None h = omega arith
few_sends (Some s) h = leb-true (length s.sends.items) 8 h

module _ (p : Program) (typed : is_typed p ≡ true) where
  pub block_placed : (block : Block) → body_placed (rights_of block) (counts_in p block) (statements_of p block) ≡ true
  block_placed Loop = loop_placed (round_counts p) p.dense (blocks_placed p typed).0
  block_placed Tail = tail_placed (round_counts p) p.dense (blocks_placed p typed).0
  block_placed SparseBody = sparse_is_placed (round_counts p) p.sparse (blocks_placed p typed).1
  block_placed UpdateBody = update_placed p typed

  abbrev dense_low : Bool
  dense_low = option_all dense_shallow p.dense

  abbrev sparse_low : Bool
  sparse_low = option_all sparse_shallow p.sparse

  abbrev update_low : Bool
  update_low = body_shallow p.update.items

  abbrev stop_low : Bool
  stop_low = option_all expr_shallow p.stop

  blocks_shallow : (dense_low && (sparse_low && (update_low && stop_low))) ≡ true
  blocks_shallow =
      let rest = dense_low && (sparse_low && (update_low && stop_low)) in
      let start = expr_shallow p.start in
      let totals = list_all (λ t. expr_shallow t.value) p.totals.items in
      right_true start rest (right_true totals (start && rest)
      (right_true (decls_shallow p.fields.items) (totals && (start && rest)) (shallow p typed)))

  block_shallow : (block : Block) → body_shallow (statements_of p block) ≡ true
  block_shallow Loop = loop_shallow p.dense
      (left_true dense_low (sparse_low && (update_low && stop_low)) blocks_shallow)
  block_shallow Tail = tail_shallow p.dense
      (left_true dense_low (sparse_low && (update_low && stop_low)) blocks_shallow)
  block_shallow SparseBody = sparse_is_shallow p.sparse
      (left_true sparse_low (update_low && stop_low)
      (right_true dense_low (sparse_low && (update_low && stop_low)) blocks_shallow))
  block_shallow UpdateBody = left_true update_low stop_low
      (right_true sparse_low (update_low && stop_low)
      (right_true dense_low (sparse_low && (update_low && stop_low)) blocks_shallow))

  lets_within : lets_in p.dense ≤ 8
  lets_within = few_lets p.dense (blocks_limited p typed).0

  sends_within : sends_in p.sparse ≤ 8
  sends_within = few_sends p.sparse (blocks_limited p typed).1

  none_within : 0 ≤ 8
  none_within = omega arith

  block_within : (block : Block) → Within (counts_in p block) most
  block_within Loop = record {
    fields = few_fields p typed;
    locals = lets_within;
    sends = none_within;
    slots = few_slots p typed;
    totals = few_totals p typed;
    others = few_fields p typed;
  }
  block_within Tail = record {
    fields = few_fields p typed;
    locals = lets_within;
    sends = none_within;
    slots = few_slots p typed;
    totals = few_totals p typed;
    others = few_fields p typed;
  }
  block_within SparseBody = record {
    fields = few_fields p typed;
    locals = none_within;
    sends = sends_within;
    slots = few_slots p typed;
    totals = few_totals p typed;
    others = few_fields p typed;
  }
  block_within UpdateBody = record {
    fields = few_fields p typed;
    locals = none_within;
    sends = none_within;
    slots = few_slots p typed;
    totals = few_totals p typed;
    others = few_fields p typed;
  }

  list_fits : (block : Block) → is_list (rights_of block).breaks (block_code (statements_of p block)) ≡ true
  list_fits block =
      let body = statements_of p block in
      let r = rights_of block in
      let c = counts_in p block in
      let l = block_level r c body (block_placed block) (block_shallow block) in
      both_true (eq-eqb (slice_index (heights 0 (block_code body)) 0) 0 l.entry)
      (both_true l.level (both_true (names_more c most (block_within block) (block_code body)
      (block_named r c body (block_placed block))) (block_breaks r c body (block_placed block))))

  pub code_valid : is_valid (code_of p) ≡ true
  code_valid = both_true (list_fits Loop) (both_true (list_fits Tail)
      (both_true (list_fits SparseBody) (list_fits UpdateBody)))

  list_at : (block : Block) → slice_index_or (code_of p) (place_of block) [] ≡ block_code (statements_of p block)
  list_at Loop = refl
  list_at Tail = refl
  list_at SparseBody = refl
  list_at UpdateBody = refl

  pub code_names : (lists : List (List Instr)) → lists ≡ code_of p → (block : Block) →
      list_names (counts_in p block) (slice_index_or lists (place_of block) []) ≡ true
  code_names lists is block =
      let r = rights_of block in
      let c = counts_in p block in
      let body = statements_of p block in
      ap (λ (ls : List (List Instr)). list_names c (slice_index_or ls (place_of block) [])) is
      ∙ ap (list_names c) (list_at block)
      ∙ block_named r c body (block_placed block)

  pub code_runs : (lists : List (List Instr)) → lists ≡ code_of p → (block : Block) (env : Env) →
      run_code (slice_index_or lists (place_of block) []) env ≡ run (statements_of p block) env
  code_runs lists is block env =
      ap (λ (ls : List (List Instr)). run_code (slice_index_or ls (place_of block) []) env) is
      ∙ ap (λ (l : List Instr). run_code l env) (list_at block)
      ∙ block_runs (rights_of block) (counts_in p block) (statements_of p block) (block_placed block) env
