-- If raw keys agree, they agree up to any place, and each one that is added agrees with those before.
use Rattle.std.proofs.Common.{◌≡◌, false, cond, List, [], ◌∷◌, ◌++◌, ℕ, refl, sym, ap, ◌∙◌, subst, append_assoc}
use Rattle.std.specs.Prelude.{Contains}
use Rattle.std.proofs.lemmas.List.Elements.{Contains-append_left, Contains-append_right}
use Rattle.mount_model.specs.PlainMount.{empty_mount}
use Rattle.mount_model.specs.History.{MountEntry, History, mount_after_entry, mount_from, mount_after, IsLegalFrom, IsLegal}
use Rattle.mount_model.specs.PlainMount.{PlainMount}
use Rattle.mount_model.specs.ClaimHistory.{is_refused}
use Rattle.mount_model.specs.Lawful.{raw_of, added_raw_keys, KeysAgree, KeyAgrees}
use Rattle.mount_model.specs.WellFormed.{HasKeys}
use Rattle.mount_model.proofs.WellSteps.{AreAmong, entry_raws, entry_among, key_agrees, none_added}

-- ---- the raw keys of a longer history

abbrev added_by : MountEntry → List (List ℕ)
added_by e = cond (is_refused e.reply) [] (raw_of e.call.op)

pub added_raw_keys-append : (g h : History) → added_raw_keys (g ++ h) ≡ added_raw_keys g ++ added_raw_keys h
added_raw_keys-append [] h = refl
added_raw_keys-append (e ∷ g) h =
    ap (λ (l : List (List ℕ)). added_by e ++ l) (added_raw_keys-append g h)
    ∙ sym (append_assoc (added_by e) (added_raw_keys g) (added_raw_keys h))

begun : (g h : History) (r : List ℕ) → Contains (added_raw_keys g) r → Contains (added_raw_keys (g ++ h)) r
begun g h r has = subst (λ (l : List (List ℕ)). Contains l r) (sym (added_raw_keys-append g h))
    (Contains-append_left (added_raw_keys g) (added_raw_keys h) r has)

ended : (g h : History) (r : List ℕ) → Contains (added_raw_keys h) r → Contains (added_raw_keys (g ++ h)) r
ended g h r has = subst (λ (l : List (List ℕ)). Contains l r) (sym (added_raw_keys-append g h))
    (Contains-append_right (added_raw_keys g) (added_raw_keys h) r has)

pub KeysAgree-begun : (g h : History) → KeysAgree (g ++ h) → KeysAgree g
KeysAgree-begun g h agree a b has_a has_b = agree a b (begun g h a has_a) (begun g h b has_b)

-- ---- the raw keys of the mount that a history leaves were added

history_raws : (among : List (List ℕ)) (m : PlainMount) (h : History)
    → ((r : List ℕ) → Contains (added_raw_keys h) r → Contains among r) → AreAmong among m.raws → IsLegalFrom m h
    → AreAmong among (mount_from m h).raws
history_raws among m [] all are legal = are
history_raws among m (e ∷ h) all are legal =
    history_raws among (mount_after_entry m e) h
    (λ r has. all r (Contains-append_right (added_by e) (added_raw_keys h) r has))
    (entry_raws among m e are (entry_among among e h all) legal.0) legal.1

-- a raw key that the next entry adds agrees with what was added under its identifier before
pub agrees_with_added : (h : History) (e : MountEntry) → KeysAgree (h ++ e ∷ []) → IsLegal h
    → HasKeys (mount_after h).claims (mount_after h).raws → is_refused e.reply ≡ false
    → KeyAgrees (mount_after h).raws e.call.op
agrees_with_added h e agree legal keys told =
    let among : List (List ℕ) = added_raw_keys (h ++ e ∷ []) in
    key_agrees among agree (mount_after h) keys
    (history_raws among empty_mount h (λ r has. begun h (e ∷ []) r has) (none_added among) legal)
    e.call.op (entry_among among e [] (λ r has. ended h (e ∷ []) r has) told)
