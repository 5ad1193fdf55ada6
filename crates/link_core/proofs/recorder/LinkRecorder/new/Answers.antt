-- The text of the machines alone is short.
use Rattle.std.proofs.Common.{◌≡◌, ◌≤◌, ℕ, List, [], ◌∷◌, ◌++◌, ◌∙◌, ap, sym, length, arith, append-nil, length-append}
use Rattle.std.specs.Prelude.{codes, decimal}
use Rattle.std.proofs.lemmas.Fmt.{length-decimal-le}
use Rattle.link_core.specs.LinkTexts.{header_line, links_text}
use Rattle.link_core.proofs.recorder.LinkRecorder.new.Goals as goal

begun_small : (machines : ℕ) → machines ≤ 64 → length (header_line machines) ≤ 23
begun_small machines few =
    let digits = length-decimal-le 2 machines (omega arith) (omega arith) (omega arith) in
    let line = length-append (codes "schedule 3 machines ") (decimal machines) in
    let whole = length-append (codes "schedule 3 machines " ++ decimal machines) (10 ∷ []) in
    omega (arith, digits, line, whole)

pub returns : goal.returns
returns c =
    let machines = c.args.machines in
    let header : List ℕ = header_line c.args.machines in
    let spelled : c.push_header.new.text.items ≡ links_text machines [] =
    c.in_ok-push_header.ensures ∙ ap (λ (t : List ℕ). t ++ header) c.new-text.ensures.items
    ∙ sym (append-nil header) in
    let small = begun_small machines c.requires.1 in
    let size : length (links_text c.args.machines []) ≡ length (header_line c.args.machines) =
    ap length (append-nil header) in
    record {
      some = c.requires.0;
      few = c.requires.1;
      fits = omega (arith, ap length spelled, size, small);
      spelled = spelled;
    }
