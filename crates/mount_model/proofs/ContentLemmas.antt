-- Contents remain as they are as long as no call writes them.
use Rattle.std.proofs.Common.{◌≡◌, ◌≢◌, ℕ, ◌<◌, ◌+◌, Bool, true, false, cond, not, ◌&&◌, ◌||◌, ◌==◌, nat_lt, eqb, List, [], ◌∷◌, ◌++◌, append_assoc, length, Option, Some, None, is_some, option_map, inl, inr, refl, sym, ap, ◌∙◌, subst, ⊎_elim, arith}
use Rattle.std.specs.Prelude.{All}
use Rattle.std.specs.Option.{option_map_or}
use Rattle.std.specs.List.{find}
use Rattle.std.proofs.lemmas.Bool.{and_parts, cond_both, cases_Bool, eq-eqb, true≢false}
use Rattle.std.proofs.lemmas.List.Elements.{All-nil, All-cons, All-head, All-tail}
use Rattle.std.proofs.lemmas.Option.{same_Some}
use Rattle.byte_words.specs.Contents.{with_bytes, bytes_from}
use Rattle.number_map.specs.Numbered.{get}
use Rattle.number_map.proofs.NumberedLemmas.{changed_here}
use Rattle.plain_tree.specs.Nodes.{Name, Children, Node, Nodes, Body, Dir, File, Link, contents_of}
use Rattle.plain_tree.specs.NodesByNumber.{is_named, is_dir_at}
use Rattle.plain_tree.specs.BodyChanges.{with_children, with_contents}
use Rattle.plain_tree.specs.Changes.{dropped, without_node, on_contents, with_context, written}
use Rattle.plain_tree.specs.Facts.{EachNode}
use Rattle.plain_tree.proofs.FactLemmas.{IsOfBodies, each_made, each_dropped, each_gone, each_moved, each_written, each_encrypted}
use Rattle.mount_limits.specs.declared.TheConstants.{MAX_FILE_BYTES, MAX_READ_BYTES}
use Rattle.mount_model.specs.declared.call.Op.{Op}
use Rattle.mount_model.specs.declared.call.Op.TheVariants as op
use Rattle.mount_model.specs.declared.handle.Handle.{Handle}
use Rattle.mount_model.specs.declared.reply.Reply.{Reply}
use Rattle.mount_model.specs.declared.reply.Reply.TheVariants as reply
use Rattle.mount_model.specs.declared.reply.Reply.TheVariants.{Done, Content, Refused}
use Rattle.mount_model.specs.declared.reply.Refusal.TheVariants.{IsDir, TooBig, NoSpace, NoMemory}
use Rattle.mount_model.specs.PlainMount.{PlainMount, HandleList, empty_mount}
use Rattle.mount_model.specs.OpenHandles.{has_handle, is_handle, node_of, without_handle}
use Rattle.mount_model.specs.KeyAnswers.{status_of}
use Rattle.mount_model.specs.SpelledPolicy.{policy_in}
use Rattle.mount_model.specs.NewNodes.{new_node, with_node}
use Rattle.mount_model.specs.UnlinkAnswers.{without_name}
use Rattle.mount_model.specs.CloseAnswers.{with_closed}
use Rattle.mount_model.specs.AnswerForms.{Answer, refusal_with, unchanged_with, done}
use Rattle.mount_model.specs.Answer.{answer_of, answer_to}
use Rattle.mount_model.specs.FileAnswers.{at_handle, contents_at, content_of, lacks_blocks_for}
use Rattle.mount_model.specs.ClaimHistory.{is_refused}
use Rattle.mount_model.specs.Step.{IsMountStep}
use Rattle.mount_model.specs.History.{History, MountEntry, IsLegal, IsLegalFrom, IsStepAt, is_out_of_memory, mount_from, mount_after_entry, mount_after}
use Rattle.mount_model.specs.Fits.{Fits}
use Rattle.mount_model.specs.Lawful.{AllFit, KeysAgree}
use Rattle.mount_model.specs.WellFormed.{IsWellFormed}
use Rattle.mount_model.specs.SoundHandles.{is_openable}
use Rattle.mount_model.specs.ContentLaws.{is_node, is_write_to, writes_to, NobodyWrites, Writes, Reads, WrittenIsRead}
use Rattle.mount_model.specs.OpenAnswers.{is_link_at}
use Rattle.mount_model.proofs.AgreeLemmas.{KeysAgree-begun}
use Rattle.mount_model.proofs.CaseLemmas.{Covers, at_add_key, at_remove_key, at_remove_key_all, at_set_policy, at_get_policy}
use Rattle.mount_model.proofs.NameCases.{at_make, at_unlink, at_rmdir, at_rename}
use Rattle.mount_model.proofs.FileCases.{at_read_link, at_list, at_stat, at_open_node, at_read, at_write, at_close, at_meta_load, at_meta_store}
use Rattle.mount_model.proofs.StepLemmas.{answered-step, refused-step}
use Rattle.mount_model.proofs.WellSteps.{mount_well}

-- ---- one call

-- if it is there, node n has these contents
abbrev Has : ℕ → List ℕ → ℕ → Node → Type 0
Has n contents x v = x ≡ n → contents_of v.body ≡ contents

-- and it was made before
abbrev Keeps : ℕ → List ℕ → PlainMount → Type 0
Keeps n contents m = (n < m.next) × EachNode (Has n contents) m.nodes

abbrev KeepsAfter : ℕ → List ℕ → Answer → Type 0
KeepsAfter n contents a = Keeps n contents a.mount

children_apart : (g : Children → Children) (b : Body) → contents_of (with_children g b) ≡ contents_of b
children_apart g (Dir cs) = refl
children_apart g (File contents) = refl
children_apart g (Link target) = refl

of_bodies : (n : ℕ) (contents : List ℕ) → IsOfBodies (Has n contents)
of_bodies n contents = record {
  children = λ x g v has is. children_apart g v.body ∙ has is;
  named = λ x named v has. has;
}

other_node : (n x : ℕ) (o : Option ℕ) → o ≡ Some x → is_node n o ≡ false → x ≢ n
other_node n x o is other same = true≢false (sym (ap (is_node n) is ∙ eq-eqb x n same) ∙ other)

module _ (n : ℕ) (contents : List ℕ) (m : PlainMount) (keeps : Keeps n contents m) where
  covers : Covers (KeepsAfter n contents) m
  covers = record { of_refusals = λ _ _. keeps; of_replies = λ _ _. keeps }

  node_made : (nonce : List ℕ) (name : Name) (body : Body) (d : ℕ) → Keeps n contents (with_node m d name (new_node m d nonce body))
  node_made nonce name body d =
      let low = keeps.0 in let below : n < m.next + 1 = omega (arith, low) in (
        below,
        each_made (Has n contents) (of_bodies n contents) m.nodes keeps.1 d name m.next (new_node m d nonce body)
            (λ is. absurd (omega (arith, low, is))),
      )

  name_dropped : (d : ℕ) (name : Name) (x : ℕ) → Keeps n contents (without_name m d name x)
  name_dropped d name x =
      let left = each_dropped (Has n contents) (of_bodies n contents) m.nodes keeps.1 d name x in (
        keeps.0,
        cond_both (has_handle m.handles x) (dropped m.nodes d name x) (without_node (dropped m.nodes d name x) x) (EachNode (Has n contents))
            (λ _. left)
            (λ _. each_gone (Has n contents) (dropped m.nodes d name x) left x),
      )

  handle_closed : (caller handle x : ℕ) → Keeps n contents (with_closed m caller handle x)
  handle_closed caller handle x = (
    keeps.0,
    cond_both (is_named m.nodes x || has_handle (without_handle caller handle m.handles) x) m.nodes (without_node m.nodes x) (EachNode (Has n contents))
        (λ _. keeps.1)
        (λ _. each_gone (Has n contents) m.nodes keeps.1 x),
  )

  call_keeps : (caller uid : ℕ) (o : Op) → is_write_to m.handles n caller o ≡ false → Keeps n contents (answer_to m caller uid o).mount
  call_keeps caller uid (op.AddKey raw) other = at_add_key (KeepsAfter n contents) m uid raw covers.of_refusals (λ _ _. keeps)
  call_keeps caller uid (op.RemoveKey id) other = at_remove_key (KeepsAfter n contents) m uid id covers.of_refusals keeps
  call_keeps caller uid (op.RemoveKeyAll id) other = at_remove_key_all (KeepsAfter n contents) m uid id covers.of_refusals keeps
  call_keeps caller uid (op.KeyStatus id) other = covers.of_replies (status_of m uid id) refl
  call_keeps caller uid (op.SetPolicy path policy nonce) other =
      at_set_policy (KeepsAfter n contents) m uid path policy nonce covers
      (λ d _. (keeps.0, each_encrypted (Has n contents) m.nodes keeps.1 d (record { policy = policy_in policy; nonce = nonce }) (λ v there own. own)))
  call_keeps caller uid (op.GetPolicy path) other = at_get_policy (KeepsAfter n contents) m path covers
  call_keeps caller uid (op.Mkdir path nonce) other = at_make (KeepsAfter n contents) m path nonce (Dir []) covers (λ d _. node_made nonce _ (Dir []) d)
  call_keeps caller uid (op.Create path nonce) other = at_make (KeepsAfter n contents) m path nonce (File []) covers (λ d _. node_made nonce _ (File []) d)
  call_keeps caller uid (op.Symlink path target nonce) other =
      at_make (KeepsAfter n contents) m path nonce (Link target) covers (λ d _. node_made nonce _ (Link target) d)
  call_keeps caller uid (op.ReadLink path) other = at_read_link (KeepsAfter n contents) m path covers
  call_keeps caller uid (op.Unlink path) other = at_unlink (KeepsAfter n contents) m path covers (λ d e _. name_dropped d e.0 e.1)
  call_keeps caller uid (op.Rmdir path) other = at_rmdir (KeepsAfter n contents) m path covers (λ d e _. name_dropped d e.0 e.1)
  call_keeps caller uid (op.Rename old_path new_path) other =
      at_rename (KeepsAfter n contents) m old_path new_path covers
      (λ d e to _. (keeps.0, each_moved (Has n contents) (of_bodies n contents) m.nodes keeps.1 d e.0 to _ e.1))
  call_keeps caller uid (op.List path start) other = at_list (KeepsAfter n contents) m path start covers
  call_keeps caller uid (op.Stat path) other = at_stat (KeepsAfter n contents) m path covers
  call_keeps caller uid (op.OpenNode path) other = at_open_node (KeepsAfter n contents) m caller path covers (λ _ _. keeps)
  call_keeps caller uid (op.Read handle offset len) other = at_read (KeepsAfter n contents) m caller handle offset len covers
  call_keeps caller uid (op.Write handle offset bytes) other =
      at_write (KeepsAfter n contents) m caller handle offset bytes covers
      (λ x can.
      let apart = other_node n x (node_of m.handles caller handle) can.open_on other in
      (keeps.0, each_written (Has n contents) m.nodes keeps.1 x (with_bytes offset bytes) (λ v there own is. absurd (apart is))))
  call_keeps caller uid (op.Close handle) other = at_close (KeepsAfter n contents) m caller handle covers (λ x _. handle_closed caller handle x)
  call_keeps caller uid op.DropCaches other = covers.of_replies Done refl
  call_keeps caller uid (op.MetaLoad name) other = at_meta_load (KeepsAfter n contents) m name covers
  call_keeps caller uid (op.MetaStore name expected bytes) other = at_meta_store (KeepsAfter n contents) m name expected bytes covers (λ _ _. keeps)

-- ---- call after call

refusal_left : (m : PlainMount) (e : MountEntry) → IsStepAt m e → is_refused e.reply ≡ true → mount_after_entry m e ≡ m
refusal_left m e step is = by e.reply refl is
  where
    by : (r : Reply) → e.reply ≡ r → is_refused r ≡ true → mount_after_entry m e ≡ m
    by (reply.Refused refusal) unchanged_with is = refused-step m e.who e.call refusal (mount_after_entry m e) (subst (λ r. IsMountStep m e.who e.call r (mount_after_entry m e)) unchanged_with step)
    by other unchanged_with is = absurd (cc is)

entry_keeps : (n : ℕ) (contents : List ℕ) (m : PlainMount) (e : MountEntry) → Keeps n contents m → IsStepAt m e → writes_to m n e ≡ false → Keeps n contents (mount_after_entry m e)
entry_keeps n contents m e keeps step quiet =
    elim (cases_Bool (is_refused e.reply)) [
      | inl refusal ↦ subst (Keeps n contents) (sym (refusal_left m e step refusal)) keeps
      | inr answered ↦
          let other : is_write_to m.handles n e.who e.call.op ≡ false = sym (ap (λ b. not b && is_write_to m.handles n e.who e.call.op) answered) ∙ quiet in
          cond_both (is_out_of_memory e.reply) m (answer_of m e.who e.call).mount (Keeps n contents)
          (λ _. keeps)
          (λ _. call_keeps n contents m keeps e.who e.call.uid e.call.op other)
    ]

history_keeps : (n : ℕ) (contents : List ℕ) (m : PlainMount) (h : History) → Keeps n contents m → IsLegalFrom m h → NobodyWrites n m h → Keeps n contents (mount_from m h)
history_keeps n contents m [] keeps legal quiet = keeps
history_keeps n contents m (e ∷ h) keeps legal quiet =
    history_keeps n contents (mount_after_entry m e) h (entry_keeps n contents m e keeps legal.0 quiet.0) legal.1 quiet.1

-- ---- the write, and the read

given : (r : Reply) → r ≡ Done → r ≢ Refused NoMemory
given r done none = absurd (cc (sym done ∙ none))

told_given : (r : Reply) (got : List ℕ) → r ≡ Content got → r ≢ Refused NoMemory
told_given r got unchanged_with none = absurd (cc (sym unchanged_with ∙ none))

left_by : (m : PlainMount) (e : MountEntry) → is_out_of_memory e.reply ≡ false → mount_after_entry m e ≡ (answer_of m e.who e.call).mount
left_by m e none = ap (λ b. cond b m (answer_of m e.who e.call).mount) none

-- an answer to a write that is done
abbrev chosen : PlainMount → PlainMount → Bool → Bool → Bool → Answer
chosen m after dir big full = cond dir (refusal_with m IsDir) (cond big (refusal_with m TooBig) (cond full (refusal_with m NoSpace) (done after)))

is_done : (m after : PlainMount) (dir big full : Bool) → (chosen m after dir big full).reply ≡ Done → (chosen m after dir big full).mount ≡ after
is_done m after true big full is = absurd (cc is)
is_done m after false true full is = absurd (cc is)
is_done m after false false true is = absurd (cc is)
is_done m after false false false is = refl

abbrev write_at : PlainMount → ℕ → List ℕ → ℕ → PlainMount
write_at m offset bytes x = record m { nodes = written m.nodes x (with_bytes offset bytes) }

abbrev written_at : PlainMount → ℕ → List ℕ → ℕ → Answer
written_at m offset bytes x =
    chosen m (write_at m offset bytes x) (is_dir_at m.nodes x) (nat_lt MAX_FILE_BYTES (offset + length bytes)) (lacks_blocks_for m x offset bytes)

-- the contents of a node that is written
wrote : (m : PlainMount) (n offset : ℕ) (bytes contents : List ℕ) (node : Node) → get m.nodes n ≡ Some node → node.body ≡ File contents
    → EachNode (Has n (with_bytes offset bytes contents)) (written m.nodes n (with_bytes offset bytes))
wrote m n offset bytes contents node there file q v found same =
    let at : get (written m.nodes n (with_bytes offset bytes)) n ≡ Some v = ap (get (written m.nodes n (with_bytes offset bytes))) (sym same) ∙ found in
    let here : Some (on_contents (with_bytes offset bytes) node) ≡ Some v =
    sym (changed_here m.nodes n (on_contents (with_bytes offset bytes)) ∙ ap (option_map (on_contents (with_bytes offset bytes))) there) ∙ at in
    ap (λ (y : Node). contents_of y.body) (sym (same_Some _ v here)) ∙ ap (λ (b : Body). contents_of (with_contents (with_bytes offset bytes) b)) file

-- a write that is done leaves these contents
write_leaves : (m : PlainMount) (e : MountEntry) (n offset : ℕ) (bytes contents : List ℕ) → n < m.next → IsStepAt m e → Writes m n offset bytes contents e
    → Keeps n (with_bytes offset bytes contents) (mount_after_entry m e)
write_leaves m e n offset bytes contents low step w =
    let answer : answer_of m e.who e.call ≡ written_at m offset bytes n =
    ap (λ o. answer_to m e.who e.call.uid o) w.call ∙ ap (λ (o : Option ℕ). at_handle m o (written_at m offset bytes)) w.on in
    let replied : (written_at m offset bytes n).reply ≡ Done =
    sym (ap (λ (a : Answer). a.reply) answer) ∙ sym (answered-step m e (mount_after_entry m e) step (given e.reply w.done)) ∙ w.done in
    let left : mount_after_entry m e ≡ write_at m offset bytes n =
    left_by m e (ap is_out_of_memory w.done) ∙ ap (λ (a : Answer). a.mount) answer
    ∙ is_done m (write_at m offset bytes n) (is_dir_at m.nodes n) (nat_lt MAX_FILE_BYTES (offset + length bytes)) (lacks_blocks_for m n offset bytes) replied in
    subst (Keeps n (with_bytes offset bytes contents)) (sym left) (low, wrote m n offset bytes contents w.node w.there w.file)

-- the caller's handle is one on the node
on_node : (hs : HandleList) (caller number n : ℕ) → node_of hs caller number ≡ Some n → has_handle hs n ≡ true
on_node [] caller number n it = absurd (cc it)
on_node (h ∷ hs) caller number n it = elim (cases_Bool (is_handle caller number h)) [
  | inl is ↦
      let here : Some h.node ≡ Some n = sym (ap (λ b. option_map (λ (g : Handle). g.node) (cond b (Some h) (find (is_handle caller number) hs))) is) ∙ it in
      ap (λ b. b || has_handle hs n) (eq-eqb h.node n (same_Some h.node n here))
  | inr other ↦
      let rest = on_node hs caller number n (sym (ap (λ b. option_map (λ (g : Handle). g.node) (cond b (Some h) (find (is_handle caller number) hs))) other) ∙ it) in
      right (eqb h.node n) rest
]
  where
    right : (b : Bool) → has_handle hs n ≡ true → (b || has_handle hs n) ≡ true
    right true rest = refl
    right false rest = rest

-- a read returns what the node has
read_told : (m : PlainMount) (e : MountEntry) (n start len : ℕ) (got : List ℕ) → IsStepAt m e → Reads m n start len got e
    → got ≡ bytes_from start len (contents_at m.nodes n)
read_told m e n start len got step r =
    by (is_dir_at m.nodes n) (nat_lt MAX_READ_BYTES len)
    (sym (ap (λ o. (at_handle m o (λ x. cond (is_dir_at m.nodes x) (refusal_with m IsDir) (cond (nat_lt MAX_READ_BYTES len) (refusal_with m TooBig) (unchanged_with m (content_of m x start len))))).reply) r.on)
    ∙ sym (ap (λ o. (answer_to m e.who e.call.uid o).reply) r.call) ∙ sym (answered-step m e _ step (told_given e.reply got r.told)) ∙ r.told)
  where
    by : (a b : Bool) → (cond a (refusal_with m IsDir) (cond b (refusal_with m TooBig) (unchanged_with m (content_of m n start len)))).reply ≡ Content got
        → got ≡ bytes_from start len (contents_at m.nodes n)
    by true b is = absurd (cc is)
    by false true is = absurd (cc is)
    by false false is = let same : bytes_from start len (contents_at m.nodes n) ≡ got = cc is in sym same

-- ---- both

abbrev IsFit : MountEntry → Type 0
IsFit e = Fits e.call

fit_begun : (g h : History) → AllFit (g ++ h) → AllFit g
fit_begun [] h fit = All-nil IsFit
fit_begun (e ∷ g) h fit = All-cons IsFit e g (All-head IsFit e (g ++ h) fit) (fit_begun g h (All-tail IsFit e (g ++ h) fit))

legal_begun : (m : PlainMount) (g h : History) → IsLegalFrom m (g ++ h) → IsLegalFrom m g
legal_begun m [] h legal = tt
legal_begun m (e ∷ g) h legal = (legal.0, legal_begun (mount_after_entry m e) g h legal.1)

legal_rest : (m : PlainMount) (g h : History) → IsLegalFrom m (g ++ h) → IsLegalFrom (mount_from m g) h
legal_rest m [] h legal = legal
legal_rest m (e ∷ g) h legal = legal_rest (mount_after_entry m e) g h legal.1

left_after : (m : PlainMount) (g h : History) → mount_from m (g ++ h) ≡ mount_from (mount_from m g) h
left_after m [] h = refl
left_after m (e ∷ g) h = left_after (mount_after_entry m e) g h

there_open : (m : PlainMount) (n : ℕ) → IsWellFormed m → has_handle m.handles n ≡ true → is_some (get m.nodes n) ≡ true
there_open m n well held = (and_parts (is_some (get m.nodes n)) (not (is_link_at m.nodes n)) (well.handles.on n held)).0

contents_are : (n : ℕ) (contents : List ℕ) (m : PlainMount) → Keeps n contents m → is_some (get m.nodes n) ≡ true → contents_at m.nodes n ≡ contents
contents_are n contents m keeps there = by (get m.nodes n) refl there
  where
    by : (o : Option Node) → get m.nodes n ≡ o → is_some o ≡ true → contents_at m.nodes n ≡ contents
    by None is there = absurd (cc there)
    by (Some v) is there = ap (λ (o : Option Node). option_map_or (λ x. contents_of x.body) o []) is ∙ keeps.1 n v is refl

pub written_is_read : WrittenIsRead
written_is_read before between write read n offset start len bytes contents got fit agree legal w quiet r =
    let m : PlainMount = mount_after before in
    let left : PlainMount = mount_after_entry m write in
    let begun : History = before ++ write ∷ between in
    let fits : AllFit begun = fit_begun begun (read ∷ []) fit in
    let agreed : KeysAgree begun = KeysAgree-begun begun (read ∷ []) agree in
    let legal_so_far : IsLegal begun = legal_begun empty_mount begun (read ∷ []) legal in
    let well : IsWellFormed m =
    mount_well before (fit_begun before (write ∷ between) fits) (KeysAgree-begun before (write ∷ between) agreed) (legal_begun empty_mount before (write ∷ between) legal_so_far) in
    let well_then : IsWellFormed (mount_after begun) = mount_well begun fits agreed legal_so_far in
    let rest : IsLegalFrom m (write ∷ between) = legal_rest empty_mount before (write ∷ between) legal_so_far in
    let low : n < m.next = well.nodes.tree.room.below n (ap is_some w.there) in
    let wrote_it : Keeps n (with_bytes offset bytes contents) left = write_leaves m write n offset bytes contents low rest.0 w in
    let kept : Keeps n (with_bytes offset bytes contents) (mount_from left between) =
    history_keeps n (with_bytes offset bytes contents) left between wrote_it rest.1
    (subst (λ x. NobodyWrites n x between) (left_after empty_mount before (write ∷ [])) quiet) in
    let kept_so_far : Keeps n (with_bytes offset bytes contents) (mount_after begun) =
    subst (Keeps n (with_bytes offset bytes contents)) (sym (left_after empty_mount before (write ∷ between))) kept in
    let last : IsStepAt (mount_after begun) read = (legal_rest empty_mount begun (read ∷ []) legal).0 in
    let held = on_node (mount_after begun).handles read.who r.number n r.on in
    read_told (mount_after begun) read n start len got last r
    ∙ ap (bytes_from start len)
    (contents_are n (with_bytes offset bytes contents) (mount_after begun) kept_so_far (there_open (mount_after begun) n well_then held))
