-- The limits, and the page after a page.
use Rattle.std.proofs.Common.{◌≡◌, ℕ, ◌+◌, ◌-◌, false, ◌||◌, nat_lt, nat_le, min, List, [], length, take, drop, sym, ap, ◌∙◌, arith}
use Rattle.std.proofs.lemmas.Bool.{le-ltb, ltb-false}
use Rattle.std.proofs.lemmas.List.{drop_all, length-take, length-drop}
use Rattle.plain_tree.specs.Nodes.{Name}
use Rattle.mount_model.specs.declared.limits.TheConstants.{MAX_HANDLES, MAX_OPENS, MAX_LISTED}
use Rattle.name_crypt.specs.declared.limits.TheConstants.{MAX_NAME_BYTES}
use Rattle.mount_model.specs.OpenHandles.{opens_of}
use Rattle.mount_model.specs.ListAnswers.{names_of_dir}
use Rattle.mount_model.specs.LimitLaws.{LimitsAreExact, FurtherNamesFollow}

pub limits_exact : LimitsAreExact
limits_exact = record {
  last_handle = λ m caller many none. (λ i. nat_le MAX_HANDLES (many i) || nat_le MAX_OPENS (none i));
  no_handle = λ m caller many. (λ i. nat_le MAX_HANDLES (many i) || nat_le MAX_OPENS (opens_of m.opened caller));
  last_target = λ target is. ap (nat_lt MAX_NAME_BYTES) is;
  long_target = λ target is. ap (nat_lt MAX_NAME_BYTES) is;
  last_name = λ name is. (omega (arith, is), omega (arith, is));
  long_name = λ name is fits. let most = fits.1 in absurd (omega (arith, is, most));
}

-- there are no names from a number on exactly when the list ends before it
none_behind : (names : List Name) (n : ℕ) → nat_lt n (length names) ≡ false → take MAX_LISTED (drop n names) ≡ []
none_behind names n ends = ap (take MAX_LISTED) (drop_all n names (ltb-false n (length names) ends))

ends_before : (names : List Name) (n : ℕ) → take MAX_LISTED (drop n names) ≡ [] → nat_lt n (length names) ≡ false
ends_before names n none =
    let counted : min MAX_LISTED (length names - n) ≡ 0 =
    ap (min MAX_LISTED) (sym (length-drop n names)) ∙ sym (length-take MAX_LISTED (drop n names)) ∙ ap length none in
    le-ltb n (length names) (omega (arith, counted))

pub names_follow : FurtherNamesFollow
names_follow m d start first next more further page behind =
    let more_is : more ≡ nat_lt (start + MAX_LISTED) (length (names_of_dir m d)) = cc in
    let next_is : next ≡ take MAX_LISTED (drop (start + MAX_LISTED) (names_of_dir m d)) = cc in (
      λ ends. next_is ∙ none_behind (names_of_dir m d) (start + MAX_LISTED) (sym more_is ∙ ends),
      λ none. more_is ∙ ends_before (names_of_dir m d) (start + MAX_LISTED) (sym next_is ∙ none),
    )
