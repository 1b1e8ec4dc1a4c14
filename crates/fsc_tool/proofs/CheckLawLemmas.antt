-- The log that a run printed is never refused after its script.
use Rattle.std.proofs.Common.{◌≡◌, ℕ, inl, inr, List, Result, Ok, Err, refl, sym, ap, ◌∙◌, subst}
use Rattle.script_lang.specs.declared.commands.Section.{Section}
use Rattle.log_check.specs.Verdicts.{IsRefusedAt}
use Rattle.log_check.proofs.StopLemmas.{not_refused}
use Rattle.fsc_tool.specs.declared.status.Status.TheVariants.{Done, Usage, BadLine, ReadFault, WriteFault, SeedFault, TooLong, Refused, NoMemory}
use Rattle.fsc_tool.specs.CheckLaws.{IsPrinted, PrintedLogsAreCertified, PrintedLogsAreNotRefused}
use Rattle.fsc_tool.specs.CheckStatus.{StatusOfInput}
use Rattle.fsc_tool.specs.Limits.{IsLong}
use Rattle.fsc_tool.proofs.PrintedLemmas.{read_is, script_part_is}
use Rattle.fsc_tool.proofs.CheckLemmas.{not_both}

-- two readings of one text are one
abbrev of_read : Result (List Section × List ℕ) ℕ → List Section × List ℕ → List Section × List ℕ
of_read (Ok parts) other = parts
of_read bad other = other

pub never_refused : PrintedLogsAreNotRefused
never_refused strict input seed log place run memory refused =
    let one : (refused.script, refused.log) ≡ (run.script, log) =
    ap (λ (read : Result (List Section × List ℕ) ℕ). of_read read (run.script, log))
    (sym refused.parts ∙ read_is log input run.script run.spelled) in
    let is_so : IsRefusedAt strict seed run.script log place =
    subst (λ (parts : List Section × List ℕ). IsRefusedAt strict seed parts.0 parts.1 place) one refused.is_so in
    not_refused strict seed run.script run.printed.history place run.printed.run.callers run.printed.run.lawfully
    run.printed.ranged run.agree memory (subst (λ (text : List ℕ). IsRefusedAt strict seed run.script text place) run.printed.log is_so)

-- nor is it at fault or too long
pub certified : PrintedLogsAreCertified
certified strict input seed log Done run memory within said = inl refl
certified strict input seed log NoMemory run memory within said = inr refl
certified strict input seed log (Refused place) run memory within said = absurd (never_refused strict input seed log place run memory said)
certified strict input seed log (BadLine line) run memory within said =
    let no : Ok (run.script, log) ≡ Err line = sym (read_is log input run.script run.spelled) ∙ said.bad in absurd (cc no)
certified strict input seed log TooLong run memory within said =
    absurd (not_both input within (subst IsLong (script_part_is log input run.script run.spelled) said))
certified strict input seed log Usage run memory within said = absurd said
certified strict input seed log ReadFault run memory within said = absurd said
certified strict input seed log WriteFault run memory within said = absurd said
certified strict input seed log SeedFault run memory within said = absurd said
