-- The report of some pages, and its text.
use Rattle.std.specs.Prelude.{ℕ, List, ◌++◌, length, Ok, codes, decimal, Result, nat_le}
use Rattle.refusal.specs.Questions.{ask, whole}
use Rattle.refusal.specs.declared.Refused.{Refused}
use Rattle.refusal.specs.declared.Refusal.TheVariants.{PagesTooLong}
use Rattle.sha256.specs.Padding.{padded, blocks}
use Rattle.sha256.specs.Text.{digest_of, digest_text}
use Rattle.edition.specs.declared.report.Report.{Report}
use Rattle.edition.specs.Pages.{most_bytes}

-- the report of pages within bounds: their length, the blocks of the padded message, the digest
abbrev pub report_of : List ℕ → Report
report_of pages = record { bytes = length pages; blocks = blocks (padded pages); digest = digest_of pages }

-- the report, or refusal 7 of pages out of bounds
abbrev pub reported : List ℕ → Result Report Refused
reported pages = ask (nat_le (length pages) most_bytes) (whole PagesTooLong) (Ok (report_of pages))

-- the three lines that are printed, without the last line's end
abbrev pub report_text : Report → List ℕ
report_text r =
    codes "bytes " ++ (decimal r.bytes ++ (codes "\nblocks " ++ (decimal r.blocks ++ (codes "\ndigest " ++ digest_text r.digest))))
