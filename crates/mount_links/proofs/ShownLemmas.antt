-- What a log shows of the calls on both mounts, call by call.
use Rattle.std.proofs.Common.{◌≡◌, ℕ, List, [], ◌∷◌, ◌++◌, ◌⊎◌, inl, inr, length, arith, refl, ap₂, sym, ◌∙◌}
use Rattle.std.proofs.lemmas.List.{map-append}
use Rattle.mount_model.specs.History.{MountEntry}
use Rattle.mount_model.specs.Port.{PlacedCalls}
use Rattle.reply_text.specs.Logged.{PlacedLogged, LoggedEntry, logged_entry, logged_calls}
use Rattle.mount_links.specs.declared.step.LinkStep.{LinkStep}
use Rattle.mount_links.specs.declared.step.LinkStep.TheVariants.{Alone, Followed, Looked, NotMade}
use Rattle.mount_links.specs.Linked.{own_part, own_parts, far_part, far_parts}
use Rattle.mount_links.specs.LinkCalls.{load_call}
use Rattle.mount_links.specs.ShownParts.{logged_load, ShowsBoth}

-- what is shown of an entry with its place
abbrev shown_placed : ℕ × MountEntry → ℕ × LoggedEntry
shown_placed x = (x.0, logged_entry x.1)

shown_own_part : (step : LinkStep) (x : ℕ × MountEntry)
    → own_part logged_load step (shown_placed x) ≡ logged_calls (own_part load_call step x)
shown_own_part Alone x = refl
shown_own_part (Followed label first there) x = refl
shown_own_part (Looked label place first) x = refl
shown_own_part (NotMade label) x = refl

shown_far_part : (step : LinkStep) (x : ℕ × MountEntry)
    → far_part step (shown_placed x) ≡ logged_calls (far_part step x)
shown_far_part Alone x = refl
shown_far_part (Followed label first there) x = refl
shown_far_part (Looked label place first) x = refl
shown_far_part (NotMade label) x = refl

pub shows_both : (steps : List LinkStep) (calls : PlacedCalls) → ShowsBoth steps calls
shows_both [] calls = record { on_own = refl; on_far = refl }
shows_both (step ∷ steps) [] = record { on_own = refl; on_far = refl }
shows_both (step ∷ steps) (x ∷ xs) =
    let more = shows_both steps xs in
    record {
      on_own = ap₂ (λ (l r : PlacedLogged). l ++ r) (shown_own_part step x) more.on_own
          ∙ sym (map-append shown_placed (own_part load_call step x) (own_parts load_call steps xs));
      on_far = ap₂ (λ (l r : PlacedLogged). l ++ r) (shown_far_part step x) more.on_far
          ∙ sym (map-append shown_placed (far_part step x) (far_parts steps xs));
    }

-- no call, or no step, has no part
pub own_parts_end : (steps : List LinkStep) (xs : PlacedLogged) → (length steps ≡ 0) ⊎ (length xs ≡ 0) → own_parts logged_load steps xs ≡ []
own_parts_end [] xs e = refl
own_parts_end (step ∷ steps) [] e = refl
own_parts_end (step ∷ steps) (x ∷ xs) (inl e) = absurd (omega (arith, e))
own_parts_end (step ∷ steps) (x ∷ xs) (inr e) = absurd (omega (arith, e))

pub far_parts_end : (steps : List LinkStep) (xs : PlacedLogged) → (length steps ≡ 0) ⊎ (length xs ≡ 0) → far_parts steps xs ≡ []
far_parts_end [] xs e = refl
far_parts_end (step ∷ steps) [] e = refl
far_parts_end (step ∷ steps) (x ∷ xs) (inl e) = absurd (omega (arith, e))
far_parts_end (step ∷ steps) (x ∷ xs) (inr e) = absurd (omega (arith, e))
