-- Each step leaves a well-formed mount, and so does each history whose raw keys agree.
use Rattle.std.proofs.Common.{◌≡◌, ℕ, false, cond, List, [], ◌∷◌, Some, None, sym, refl, ap, ◌∙◌, subst, ⊎_elim}
use Rattle.std.specs.Prelude.{Contains, ⊤}
use Rattle.std.specs.FinMap.{get-empty}
use Rattle.std.specs.Ordering.{nat_cmp}
use Rattle.std.specs.Cmp.Lexicographic.{slice_cmp}
use Rattle.std.proofs.lemmas.Bool.{cond-true, cond-false, cases_Bool}
use Rattle.std.proofs.lemmas.List.Elements.{All-head, All-tail, Contains-append_left, Contains-append_right, Contains-push}
use Rattle.policy_ctx.specs.declared.policy.KeyId.{KeyId}
use Rattle.policy_ctx.specs.KeyIds.{same_id}
use Rattle.fsc_keys.specs.Keys.{key_id_of}
use Rattle.plain_tree.specs.Nodes.{Dir, File, Link}
use Rattle.mount_model.specs.declared.call.Call.{Call}
use Rattle.mount_model.specs.declared.call.Op.{Op}
use Rattle.mount_model.specs.declared.call.Op.TheVariants as op
use Rattle.mount_model.specs.declared.reply.Reply.{Reply}
use Rattle.mount_model.specs.declared.reply.Reply.TheVariants.{Done}
use Rattle.mount_model.specs.PlainMount.{PlainMount, Raws, raw_in, with_raw, empty_mount}
use Rattle.mount_model.specs.KeyAnswers.{status_of}
use Rattle.mount_model.specs.AnswerForms.{Answer}
use Rattle.mount_model.specs.Answer.{answer_to}
use Rattle.mount_model.specs.Fits.{OpFits, Fits}
use Rattle.mount_model.specs.Step.{IsMountStep}
use Rattle.mount_model.specs.History.{MountEntry, History, mount_after_entry, IsStepAt, mount_from, mount_after, IsLegalFrom, IsLegal}
use Rattle.mount_model.specs.ClaimHistory.{is_refused}
use Rattle.mount_model.specs.Lawful.{raw_of, added_raw_keys, KeysAgree, KeyAgrees, AllFit}
use Rattle.mount_model.specs.WellFormed.{HasKeys, IsWellFormed}
use Rattle.mount_model.proofs.CaseLemmas.{Covers, at_add_key, at_remove_key, at_remove_key_all, at_set_policy, at_get_policy}
use Rattle.mount_model.proofs.NameCases.{at_make, at_unlink, at_rmdir, at_rename}
use Rattle.mount_model.proofs.FileCases.{at_read_link, at_list, at_stat, at_open_node, at_read, at_write, at_close, at_meta_load, at_meta_store}
use Rattle.mount_model.proofs.StepLemmas.{refusal_keeps}
use Rattle.mount_model.proofs.KeyLemmas.{raw_in-with_raw}
use Rattle.mount_model.proofs.KeySteps.{keys_step}
use Rattle.mount_model.proofs.RecordSteps.{records_step}
use Rattle.mount_model.proofs.NodeSteps.{nodes_step}
use Rattle.mount_model.proofs.HandleSteps.{handles_step}
use Rattle.mount_model.proofs.AddedLemmas.{HasNodes-with_raw}
use Rattle.mount_model.proofs.FirstMount.{empty_well}

answer_well : (m : PlainMount) (caller uid : ℕ) (o : Op) → IsWellFormed m → OpFits o → (is_refused (answer_to m caller uid o).reply ≡ false → KeyAgrees m.raws o)
    → IsWellFormed (answer_to m caller uid o).mount
answer_well m caller uid o well fits agrees = ⊎_elim
    (λ no. subst IsWellFormed (sym (refusal_keeps m caller uid o no)) well)
    (λ given. record {
      keys = keys_step m caller uid o well.keys;
      nodes = nodes_step m caller uid o well.keys well.nodes fits
          (λ raw is. HasNodes-with_raw m.raws raw (subst (KeyAgrees m.raws) is (agrees given)) m.nodes m.next well.nodes);
      handles = handles_step m caller uid o well.nodes well.handles fits;
      records = records_step m caller uid o well.records;
    })
    (cases_Bool (is_refused (answer_to m caller uid o).reply))

pub step_well : (m : PlainMount) (caller : ℕ) (call : Call) (reply : Reply) (after : PlainMount) → IsWellFormed m → Fits call
    → (is_refused reply ≡ false → KeyAgrees m.raws call.op) → IsMountStep m caller call reply after → IsWellFormed after
step_well m caller call reply after well fits agrees step = ⊎_elim
    (λ a. subst IsWellFormed (sym a.1) (answer_well m caller call.uid call.op well fits (λ given. agrees (ap is_refused a.0 ∙ given))))
    (λ w. subst IsWellFormed (sym w.2) well)
    step

-- ---- histories whose raw keys are among some that agree

module _ (among : List (List ℕ)) where
  abbrev pub AreAmong : Raws → Type 0
  AreAmong raws = (id : KeyId) (raw : List ℕ) → raw_in raws id ≡ Some raw → Contains among raw

  abbrev pub IsAmong : Op → Type 0
  IsAmong (op.AddKey raw) = Contains among raw
  IsAmong other = ⊤

  with_among : (raws : Raws) (raw : List ℕ) → AreAmong raws → Contains among raw → AreAmong (with_raw raws (key_id_of raw) raw)
  with_among raws raw are here q r is = ⊎_elim
      (λ same. let found : Some raw ≡ Some r = sym (cond-true (same_id q (key_id_of raw)) (Some raw) (raw_in raws q) same) ∙ (sym (raw_in-with_raw raws (key_id_of raw) raw q) ∙ is) in
      let raw_is : raw ≡ r = cc in subst (Contains among) raw_is here)
      (λ apart. are q r (sym (cond-false (same_id q (key_id_of raw)) (Some raw) (raw_in raws q) apart) ∙ (sym (raw_in-with_raw raws (key_id_of raw) raw q) ∙ is)))
      (cases_Bool (same_id q (key_id_of raw)))

  abbrev Kept : Answer → Type 0
  Kept a = AreAmong a.mount.raws

  covers : (m : PlainMount) → AreAmong m.raws → Covers Kept m
  covers m are = record { of_refusals = λ _ _. are; of_replies = λ _ _. are }

  raws_step : (m : PlainMount) (caller uid : ℕ) (o : Op) → AreAmong m.raws → (is_refused (answer_to m caller uid o).reply ≡ false → IsAmong o) → AreAmong (answer_to m caller uid o).mount.raws
  raws_step m caller uid (op.AddKey raw) are given = at_add_key (λ (a : Answer). (is_refused a.reply ≡ false → Contains among raw) → AreAmong a.mount.raws) m uid raw (λ _ _ _. are) (λ _ _ here. with_among m.raws raw are (here refl)) given
  raws_step m caller uid (op.RemoveKey id) are given = at_remove_key Kept m uid id (covers m are).of_refusals are
  raws_step m caller uid (op.RemoveKeyAll id) are given = at_remove_key_all Kept m uid id (covers m are).of_refusals are
  raws_step m caller uid (op.KeyStatus id) are given = (covers m are).of_replies (status_of m uid id) refl
  raws_step m caller uid (op.SetPolicy path policy nonce) are given = at_set_policy Kept m uid path policy nonce (covers m are) (λ _ _. are)
  raws_step m caller uid (op.GetPolicy path) are given = at_get_policy Kept m path (covers m are)
  raws_step m caller uid (op.Mkdir path nonce) are given = at_make Kept m path nonce (Dir []) (covers m are) (λ _ _. are)
  raws_step m caller uid (op.Create path nonce) are given = at_make Kept m path nonce (File []) (covers m are) (λ _ _. are)
  raws_step m caller uid (op.Symlink path target nonce) are given = at_make Kept m path nonce (Link target) (covers m are) (λ _ _. are)
  raws_step m caller uid (op.ReadLink path) are given = at_read_link Kept m path (covers m are)
  raws_step m caller uid (op.Unlink path) are given = at_unlink Kept m path (covers m are) (λ _ _ _. are)
  raws_step m caller uid (op.Rmdir path) are given = at_rmdir Kept m path (covers m are) (λ _ _ _. are)
  raws_step m caller uid (op.Rename old_path new_path) are given = at_rename Kept m old_path new_path (covers m are) (λ _ _ _ _. are)
  raws_step m caller uid (op.List path start) are given = at_list Kept m path start (covers m are)
  raws_step m caller uid (op.Stat path) are given = at_stat Kept m path (covers m are)
  raws_step m caller uid (op.OpenNode path) are given = at_open_node Kept m caller path (covers m are) (λ _ _. are)
  raws_step m caller uid (op.Read handle offset len) are given = at_read Kept m caller handle offset len (covers m are)
  raws_step m caller uid (op.Write handle offset bytes) are given = at_write Kept m caller handle offset bytes (covers m are) (λ _ _. are)
  raws_step m caller uid (op.Close handle) are given = at_close Kept m caller handle (covers m are) (λ _ _. are)
  raws_step m caller uid op.DropCaches are given = (covers m are).of_replies Done refl
  raws_step m caller uid (op.MetaLoad name) are given = at_meta_load Kept m name (covers m are)
  raws_step m caller uid (op.MetaStore name expected bytes) are given = at_meta_store Kept m name expected bytes (covers m are) (λ _ _. are)

  pub entry_raws : (m : PlainMount) (e : MountEntry) → AreAmong m.raws → (is_refused e.reply ≡ false → IsAmong e.call.op) → IsStepAt m e → AreAmong (mount_after_entry m e).raws
  entry_raws m e are given step = ⊎_elim
      (λ a. subst (λ (x : PlainMount). AreAmong x.raws) (sym a.1) (raws_step m e.who e.call.uid e.call.op are (λ told. given (ap is_refused a.0 ∙ told))))
      (λ w. subst (λ (x : PlainMount). AreAmong x.raws) (sym w.2) are)
      step

  -- the raw key that an entry added
  pub entry_among : (e : MountEntry) (h : History) → ((r : List ℕ) → Contains (added_raw_keys (e ∷ h)) r → Contains among r) → is_refused e.reply ≡ false → IsAmong e.call.op
  entry_among e h all told = by e.call.op (λ r has. all r (Contains-append_left (cond (is_refused e.reply) [] (raw_of e.call.op)) (added_raw_keys h) r
      (subst (λ (l : List (List ℕ)). Contains l r) (sym (cond-false (is_refused e.reply) [] (raw_of e.call.op) told)) has)))
    where
      by : (o : Op) → ((r : List ℕ) → Contains (raw_of o) r → Contains among r) → IsAmong o
      by (op.AddKey raw) all = all raw (Contains-push [] raw)
      by other all = tt

  module _ (agree : (a b : List ℕ) → Contains among a → Contains among b → key_id_of a ≡ key_id_of b → a ≡ b) where
    pub key_agrees : (m : PlainMount) → HasKeys m.claims m.raws → AreAmong m.raws → (o : Op) → IsAmong o → KeyAgrees m.raws o
    key_agrees m keys are (op.AddKey raw) here = λ old is. agree old raw (are (key_id_of raw) old is) here (keys.filed (key_id_of raw) old is)
    key_agrees m keys are other here = tt

    history_well : (m : PlainMount) (h : History) → ((r : List ℕ) → Contains (added_raw_keys h) r → Contains among r) → AreAmong m.raws → AllFit h → IsLegalFrom m h → IsWellFormed m → IsWellFormed (mount_from m h)
    history_well m [] all are fit legal well = well
    history_well m (e ∷ h) all are fit legal well =
        let mine : is_refused e.reply ≡ false → IsAmong e.call.op = entry_among e h all in
        history_well (mount_after_entry m e) h
        (λ r has. all r (Contains-append_right (cond (is_refused e.reply) [] (raw_of e.call.op)) (added_raw_keys h) r has))
        (entry_raws m e are mine legal.0)
        (All-tail (λ (x : MountEntry). Fits x.call) e h fit)
        legal.1
        (step_well m e.who e.call e.reply (mount_after_entry m e) well (All-head (λ (x : MountEntry). Fits x.call) e h fit) (λ told. key_agrees m well.keys are e.call.op (mine told)) legal.0)

pub none_added : (among : List (List ℕ)) (id : KeyId) (raw : List ℕ) → raw_in empty_mount.raws id ≡ Some raw → Contains among raw
none_added among id raw is = let none : None ≡ Some raw = sym (get-empty (slice_cmp nat_cmp) id.0) ∙ is in absurd (cc)

pub mount_well : (h : History) → AllFit h → KeysAgree h → IsLegal h → IsWellFormed (mount_after h)
mount_well h fit agree legal = history_well (added_raw_keys h) agree empty_mount h (λ r has. has) (none_added (added_raw_keys h)) fit legal empty_well
