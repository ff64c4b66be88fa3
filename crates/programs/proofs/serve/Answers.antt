-- The file is what stands in the buffer up to the count that was read, and what is written is its text.
use Rattle.std.proofs.Common.{◌≡◌, List, ℕ, ◌-◌, length, take, replicate, arith, subst, ap, ◌∙◌}
use Rattle.std.specs.Io.KnownBytes.{Appends}
use Rattle.report.specs.Report.{printed}
use Rattle.report.specs.declared.Printed.{Printed}
use lib.Seq.{take-append_seam}
use Rattle.programs.proofs.serve.Goals as goal

-- The part of a print that its length says is the text.
front : (print : Printed) (text : List ℕ) → print ≡ printed text → take print.length print.text ≡ text
unfolding printed
front print text is = ap (λ p. take p.length p.text) is ∙ take-append_seam text (replicate (32768 - length text) 0)

pub returns-in-Ok-write_all-clause-written : goal.returns-in-Ok-write_all-clause-written
returns-in-Ok-write_all-clause-written g c =
    let got = c.in-Ok.ensures in
    let text = front c.print-printed.result _ c.print-printed.ensures.value in
    (take c.in-Ok.read c.read_all.new.buffer, got.bytes, λ short. got.end (omega arith), subst (Appends _ _) text c.in-Ok-write_all.ensures.bytes)
