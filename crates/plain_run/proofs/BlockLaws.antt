-- The parts of a block, put together.
use Rattle.std.proofs.Common.{◌≡◌, ℕ, ◌+◌, true, List, ◌++◌, length, sym, ap, ◌∙◌, zero-add, append-nil}
use Rattle.std.specs.Prelude.{◌&&◌}
use Rattle.std.specs.List.{list_all}
use Rattle.std.proofs.lemmas.Bool.{and_parts}
use Rattle.vert_base.specs.declared.graph.Edge.{Edge}
use Rattle.vert_tree.specs.declared.program.Decl.{Decl}
use Rattle.vert_tree.specs.declared.program.Dense.{Dense}
use Rattle.vert_tree.specs.declared.program.Sparse.{Sparse}
use Rattle.vert_tree.specs.declared.statement.Stmt.{Stmt}
use Rattle.vert_tree.specs.Places.{Counts, body_placed, dense_placed, expr_placed, lets_placed, loop_rights, sparse_placed, sparse_rights, tail_rights}
use Rattle.slot_merge.specs.declared.partial.Partial.{Partial}
use Rattle.slot_merge.specs.Partials.{with_emissions}
use Rattle.slot_merge.proofs.SlotLaws.{with_emissions-append}
use Rattle.vert_eval.specs.declared.environment.Env.{Env}
use Rattle.vert_eval.specs.Values.{counts_of}
use Rattle.vert_eval.specs.Runs.{run}
use Rattle.vert_eval.specs.Rounds.{Scene, dense_block, loop, with_lets}
use Rattle.vert_eval.proofs.FrameLaws.{run_reads}

-- the parts of a dense block whose names all have a place
pub record DenseParts (c : Counts) (d : Dense) : Type 0 where
  pub test : expr_placed c d.when_test ≡ true
  pub lets : lets_placed c d.lets.items ≡ true
  pub body : body_placed loop_rights (record c { locals = length d.lets.items }) d.body.items ≡ true
  pub tail : body_placed tail_rights (record c { locals = length d.lets.items }) d.tail.items ≡ true

pub dense_parts : (c : Counts) (d : Dense) → dense_placed c d ≡ true → DenseParts c d
dense_parts c d h =
    let inner : Counts = record c { locals = length d.lets.items } in
    let last = body_placed loop_rights inner d.body.items && body_placed tail_rights inner d.tail.items in
    let p = and_parts (expr_placed c d.when_test) (lets_placed c d.lets.items && last) h in
    let q = and_parts (lets_placed c d.lets.items) last p.1 in
    let r = and_parts (body_placed loop_rights inner d.body.items) (body_placed tail_rights inner d.tail.items) q.1 in
    record { test = p.0; lets = q.0; body = r.0; tail = r.1 }

-- the parts of a sparse block whose names all have a place
pub record SparseParts (c : Counts) (s : Sparse) : Type 0 where
  pub test : expr_placed c s.when_test ≡ true
  pub sends : list_all (λ d. expr_placed c d.value) s.sends.items ≡ true
  pub body : body_placed sparse_rights (record c { sends = length s.sends.items }) s.body.items ≡ true

pub sparse_parts : (c : Counts) (s : Sparse) → sparse_placed c s ≡ true → SparseParts c s
sparse_parts c s h =
    let inner : Counts = record c { sends = length s.sends.items } in
    let sends = list_all (λ d. expr_placed c d.value) s.sends.items in
    let p = and_parts (expr_placed c s.when_test) (sends && body_placed sparse_rights inner s.body.items) h in
    let q = and_parts sends (body_placed sparse_rights inner s.body.items) p.1 in
    record { test = p.0; sends = q.0; body = q.1 }

-- n lets more, where there was none
pub counts_after :
    (old new : Env) (c : Counts) (n : ℕ) →
    counts_of old ≡ record c { locals = 0 } →
    counts_of new ≡ record (counts_of old) { locals = length old.locals.items + n } →
    counts_of new ≡ record c { locals = n }
counts_after old new c n e h =
    let more : Counts → Counts = λ k. record k { locals = k.locals + n } in
    h ∙ ap more e ∙ ap (λ m. record c { locals = m }) (zero-add n)

-- a block, whose lets, loop and tail ran one after another
module _
    (s : Scene) (d : Dense) (members ms : List Edge) (lets : List Decl) (body tail : List Stmt) (env start : Env)
    (el : lets ≡ d.lets.items) (eb : body ≡ d.body.items) (em : ms ≡ members) (es : start ≡ with_lets lets env) where
  looped_same : loop s body ms start ≡ loop s d.body.items members (with_lets d.lets.items env)
  looped_same =
      ap (λ b. loop s b ms start) eb
      ∙ ap (λ m. loop s d.body.items m start) em
      ∙ ap (loop s d.body.items members) (es ∙ ap (λ l. with_lets l env) el)

  pub block_partials :
      (left : Env) (ps qs rs : List Partial) →
      tail ≡ d.tail.items →
      start.key ≡ env.key →
      left ≡ (loop s body ms start).env →
      left.key ≡ start.key →
      qs ≡ with_emissions start.key ps (loop s body ms start).emitted →
      rs ≡ with_emissions left.key qs (run tail left).emitted →
      rs ≡ with_emissions env.key ps (dense_block s d members env).emitted
  block_partials left ps qs rs et k1 e2 k2 h1 h2 =
      let looped = loop s d.body.items members (with_lets d.lets.items env) in
      let same = looped_same in
      let ended : left ≡ looped.env = e2 ∙ ap (λ r. r.env) same in
      let p1 : qs ≡ with_emissions env.key ps looped.emitted =
      h1 ∙ ap (λ k. with_emissions k ps (loop s body ms start).emitted) k1
      ∙ ap (λ r. with_emissions env.key ps r.emitted) same in
      h2
      ∙ ap (λ k. with_emissions k qs (run tail left).emitted) (k2 ∙ k1)
      ∙ ap (λ x. with_emissions env.key x (run tail left).emitted) p1
      ∙ ap (λ t. with_emissions env.key (with_emissions env.key ps looped.emitted) (run t left).emitted) et
      ∙ ap (λ e. with_emissions env.key (with_emissions env.key ps looped.emitted) (run d.tail.items e).emitted) ended
      ∙ sym (with_emissions-append env.key ps looped.emitted (run d.tail.items looped.env).emitted)

  pub block_reads : (reads : List ℕ) → reads ≡ (loop s body ms start).reads →
      reads ≡ (dense_block s d members env).reads
  block_reads reads h =
      let looped = loop s d.body.items members (with_lets d.lets.items env) in
      h
      ∙ ap (λ r. r.reads) looped_same
      ∙ sym (ap (λ us. looped.reads ++ us) (run_reads d.tail.items looped.env) ∙ append-nil looped.reads)
