use Rattle.std.proofs.Common.{◌<◌, ◌∙◌, ℕ, length, ap, arith}
use Rattle.std.specs.List.{range_with_len}
use Rattle.vert_base.specs.Ends.{start_of}
use Rattle.command_steps.specs.Outputs.{chunk_line, chunk_text}
use Rattle.command_steps.proofs.TextLaws.{all_numbers, all_put, below_numbers, number_at, one_failed, one_more}
use Rattle.command_steps.proofs.plan.write_chunks.Goals as goal

pub returns-in_err-write_chunk : goal.returns-in_err-write_chunk
returns-in_err-write_chunk g c =
    let ends = c.args.cuts.now in
    let below : c.chunks.chunk < length ends = omega (arith, c.count-chunk-end.ensures.value) in
    one_failed (chunk_line ends) (range_with_len 0 (length ends)) c.chunks.chunk 0
    (below_numbers (length ends) c.chunks.chunk below)
    (ap (λ (s : ℕ). chunk_text c.chunks.chunk s c.end.result) c.start.ensures
    ∙ ap (chunk_text c.chunks.chunk (start_of ends c.chunks.chunk)) c.end.ensures.value
    ∙ ap (chunk_line ends) (number_at (length ends) c.chunks.chunk below)) c.chunks.invariant c.from_residual.result
    c.from_residual.ensures.0 c.in_err-write_chunk.ensures

pub chunks-preserved : goal.chunks-preserved
chunks-preserved g c =
    let ends = c.args.cuts.now in
    let below : c.chunks.chunk < length ends = omega (arith, c.count-chunk-end.ensures.value) in
    one_more (chunk_line ends) (range_with_len 0 (length ends)) c.chunks.chunk 0
    (below_numbers (length ends) c.chunks.chunk below)
    (ap (λ (s : ℕ). chunk_text c.chunks.chunk s c.end.result) c.start.ensures
    ∙ ap (chunk_text c.chunks.chunk (start_of ends c.chunks.chunk)) c.end.ensures.value
    ∙ ap (chunk_line ends) (number_at (length ends) c.chunks.chunk below)) c.chunks.invariant
    c.in_ok-write_chunk.ensures

pub returns : goal.returns
returns g c =
    let ends = c.args.cuts.now in
    all_put (chunk_line ends) (range_with_len 0 (length ends)) c.chunks.chunk
    (all_numbers (length ends) c.chunks.chunk (omega (arith, c.count-chunk-end.ensures.value))) c.chunks.invariant
