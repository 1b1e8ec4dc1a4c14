-- The form that is left after those with threads is run on one thread.
use Rattle.std.proofs.Common.{◌≡◌, Some, None, map, string_bytes, ap, sym, ◌∙◌, rules}
use Rattle.fsc_tool.specs.Forms.{form_of}
use Rattle.fsc_tool.proofs.top.tool.Goals as goal

pub returns-in-Some-clause-run : goal.returns-in-Some-clause-run
returns-in-Some-clause-run g c =
    let found : form_of (map string_bytes c.args.words.now.items) ≡ Some c.in-Some.form =
    sym (c.read_form.ensures ∙ ap (λ words. form_of (map string_bytes words)) c.as_slice.ensures.value) ∙ c.in-Some.is in
    record {
      run = rw found (search rules);
      usage = (
        λ used. absurd (c.run_in_turns.ensures.form used),
        λ none. let wrong : Some c.in-Some.form ≡ None = sym found ∙ none in absurd (cc wrong),
      );
    }
