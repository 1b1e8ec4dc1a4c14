-- What is read of an open file is what the mount answers.
use Rattle.std.proofs.Common.{◌≡◌, ℕ, ◌≤◌, Bool, cond, List, [], nat_lt, Option, Some, None, option_map, refl, sym, ap, ◌∙◌}
use Rattle.std.specs.Option.{option_map_or}
use Rattle.std.proofs.lemmas.Bool.{le-ltb}
use Rattle.policy_ctx.specs.declared.policy.Context.{Context}
use Rattle.fsc_keys.specs.declared.file_keys.KeyKind.TheVariants.{Contents}
use Rattle.number_map.specs.Numbered.{get}
use Rattle.data_crypt.specs.Blocks.{Seal}
use Rattle.plain_tree.specs.Nodes.{Node, Body, Dir, File, Link, contents_of}
use Rattle.plain_tree.specs.NodesByNumber.{context_in}
use Rattle.disk_tree.specs.DiskTree.{IsFileAt}
use Rattle.file_disk.specs.Bodies.{file_body}
use Rattle.file_disk.specs.Pending.{IsStored, IsPart, pending_content}
use Rattle.file_disk.specs.declared.pending.PendingRead.{PendingRead}
use Rattle.mount_limits.specs.declared.TheConstants.{MAX_READ_BYTES}
use Rattle.mount_model.specs.declared.reply.Reply.TheVariants.{Content, Refused}
use Rattle.mount_model.specs.declared.reply.Refusal.{Refusal}
use Rattle.mount_model.specs.declared.reply.Refusal.TheVariants.{TooBig}
use Rattle.mount_model.specs.PlainMount.{PlainMount}
use Rattle.mount_model.specs.OpenHandles.{node_of}
use Rattle.mount_model.specs.AnswerForms.{Answer, refusal_with, unchanged_with}
use Rattle.mount_model.specs.FileAnswers.{contents_at, content_of, answer_to_read}
use Rattle.mount_state.specs.Stored.{stored_node, contents_seal}
use Rattle.mount_state.specs.Represents.{Represents}
use Rattle.mount_state.specs.CachedKeys.{plain_kind}
use Rattle.mount_state.specs.declared.state.MountState.{MountState}
use Rattle.mount_files.specs.OpenFile.{IsOpen, IsFileRefused}
use Rattle.mount_files.specs.Seals.{IsSealOf}
use Rattle.mount_files.proofs.OpenLemmas.{answered_at}
use Rattle.mount_files.proofs.SealLemmas.{seal_is}

module _ (s : MountState) (m : PlainMount) (st : Represents s m) (file : ℕ) (is_open : IsOpen m file) (seal : Option Seal) (is : IsSealOf s file seal) where
  stored_at : (named : Bool) (context : Option Context) (b : Body) → get m.nodes file ≡ Some (record { named = named; context = context; body = b })
      → plain_kind (Some (record { named = named; context = context; body = b })) ≡ Contents → IsStored s.disk file seal (contents_of b)
  stored_at named context (Dir children) there bad = absurd (cc)
  stored_at named context (File contents) there kind = record {
    body = ap (option_map (λ node. node.body)) (st.tree.nodes file ∙ ap (option_map (stored_node m.raws file)) there)
        ∙ ap (λ (x : Option Seal). Some (file_body x contents))
        (sym (seal_is s m st file is_open seal is ∙ ap (λ (o : Option Node). contents_seal m.raws file (context_in o)) there));
    bytes = (st.well.nodes.bodies file (record { named = named; context = context; body = File contents }) there).0;
  }
  stored_at named context (Link target) there bad = absurd (cc)

  stored_by : (o : Option Node) → get m.nodes file ≡ o → plain_kind o ≡ Contents → IsStored s.disk file seal (option_map_or (λ v. contents_of v.body) o [])
  stored_by None there bad = absurd (cc)
  stored_by (Some v) there kind = stored_at v.named v.context v.body there kind

  pub part_is : (offset len : ℕ) (lent : Option PendingRead) → IsPart s.disk file seal offset len lent → Content (pending_content lent) ≡ content_of m file offset len
  part_is offset len lent part =
      ap (λ (bytes : List ℕ). Content bytes) (part (contents_at m.nodes file) (stored_by (get m.nodes file) refl is_open.is_file))

-- ---- the answer

module _ (s : MountState) (m : PlainMount) (st : Represents s m) (caller handle offset len : ℕ) where
  abbrev of_file : ℕ → Answer
  of_file n = cond (nat_lt MAX_READ_BYTES len) (refusal_with m TooBig) (unchanged_with m (content_of m n offset len))

  pub read_refused : (refusal : Refusal) → IsFileRefused s caller handle refusal → Refused refusal ≡ (answer_to_read m caller handle offset len).reply
  read_refused refusal refusal_with = sym (ap (λ (a : Answer). a.reply) (refusal_with m of_file st))

  module _ (file : ℕ) (led : node_of s.handles.live caller handle ≡ Some file) (is_file : IsFileAt s.disk file) where
    pub read_answered : len ≤ MAX_READ_BYTES → content_of m file offset len ≡ (answer_to_read m caller handle offset len).reply
    read_answered few =
        sym (ap (λ (a : Answer). a.reply) (answered_at s m st caller handle file led is_file of_file)
        ∙ ap (λ b. (cond b (refusal_with m TooBig) (unchanged_with m (content_of m file offset len))).reply) (le-ltb MAX_READ_BYTES len few))
