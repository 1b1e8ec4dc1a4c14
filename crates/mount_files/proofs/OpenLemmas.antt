-- The file that a caller has open is one of the mount's.
use Rattle.std.proofs.Common.{◌≡◌, ℕ, Bool, true, false, cond, not, ◌||◌, [], ◌∷◌, Option, Some, None, option_map, is_some, inl, inr, refl, sym, ap, subst, ◌∙◌}
use Rattle.std.specs.List.{find}
use Rattle.std.proofs.lemmas.Bool.{cases_Bool, and_parts, true≢false, eq-eqb}
use Rattle.fsc_keys.specs.declared.file_keys.KeyKind.TheVariants.{Contents}
use Rattle.number_map.specs.Numbered.{get}
use Rattle.plain_tree.specs.Nodes.{Node, Body, Dir, File, Link}
use Rattle.plain_tree.specs.NodesByNumber.{is_dir_in, is_dir_at}
use Rattle.disk_tree.specs.DiskTree.{IsDirAt, IsFileAt, of_node}
use Rattle.disk_tree.specs.Nodes.{IsDir, IsFile}
use Rattle.mount_model.specs.declared.reply.Refusal.TheVariants.{IsDir as IsDirectory}
use Rattle.mount_model.specs.PlainMount.{PlainMount, Raws, HandleList}
use Rattle.mount_model.specs.OpenHandles.{is_handle, has_handle, node_of}
use Rattle.mount_model.specs.AnswerForms.{Answer, refusal_with}
use Rattle.mount_model.specs.FileAnswers.{at_handle, at_file}
use Rattle.mount_model.specs.OpenAnswers.{is_link_at}
use Rattle.mount_model.proofs.NodeParts.{link_in}
use Rattle.mount_state.specs.Stored.{stored_node}
use Rattle.mount_state.specs.Represents.{Represents}
use Rattle.mount_state.specs.CachedKeys.{plain_kind}
use Rattle.mount_state.specs.declared.state.MountState.{MountState}
use Rattle.mount_files.specs.OpenFile.{IsOpen}

or_right : (b c : Bool) → c ≡ true → (b || c) ≡ true
or_right true c is = refl
or_right false c is = is

some_same : (x y : ℕ) → Some x ≡ Some y → x ≡ y
some_same x y e = cc

-- a handle's node has a handle
handle_there : (handles : HandleList) (caller number n : ℕ) → node_of handles caller number ≡ Some n → has_handle handles n ≡ true
handle_there [] caller number n bad = let none : None ≡ Some n = bad in absurd (cc)
handle_there (h ∷ hs) caller number n is = by (is_handle caller number h) (handle_there hs caller number n) is
  where
    by : (b : Bool) → (node_of hs caller number ≡ Some n → has_handle hs n ≡ true) → option_map (λ x. x.node) (cond b (Some h) (find (is_handle caller number) hs)) ≡ Some n
        → has_handle (h ∷ hs) n ≡ true
    by true rest is = ap (λ b. b || has_handle hs n) (eq-eqb h.node n (some_same h.node n is))
    by false rest is = or_right _ (has_handle hs n) (rest is)

-- ---- kinds on the disk and in the mount

file_from : (raws : Raws) (n : ℕ) (o : Option Node) → of_node ⊥ (λ node. IsFile node.body) (option_map (stored_node raws n) o) → (plain_kind o ≡ Contents) × (is_dir_in o ≡ false)
file_from raws n None is = absurd is
file_from raws n (Some v) is = at v.body is
  where
    at : (b : Body) → of_node ⊥ (λ node. IsFile node.body) (Some (stored_node raws n (record v { body = b })))
        → (plain_kind (Some (record v { body = b })) ≡ Contents) × (is_dir_in (Some (record v { body = b })) ≡ false)
    at (Dir children) is = absurd is
    at (File contents) is = (refl, refl)
    at (Link target) is = absurd is

-- a node that is open is a directory or a file
dir_or_file : (raws : Raws) (n : ℕ) (o : Option Node) → is_some o ≡ true → link_in o ≡ false
    → (of_node ⊥ (λ node. IsDir node.body) (option_map (stored_node raws n) o) → ⊥) → (of_node ⊥ (λ node. IsFile node.body) (option_map (stored_node raws n) o) → ⊥) → ⊥
dir_or_file raws n None there no_link no_dir no_file = true≢false (sym there)
dir_or_file raws n (Some v) there no_link no_dir no_file = at v.body no_link no_dir no_file
  where
    at : (b : Body) → link_in (Some (record v { body = b })) ≡ false
        → (of_node ⊥ (λ node. IsDir node.body) (Some (stored_node raws n (record v { body = b }))) → ⊥)
        → (of_node ⊥ (λ node. IsFile node.body) (Some (stored_node raws n (record v { body = b }))) → ⊥) → ⊥
    at (Dir children) no_link no_dir no_file = no_dir tt
    at (File contents) no_link no_dir no_file = no_file tt
    at (Link target) link no_dir no_file = true≢false link

module _ (s : MountState) (m : PlainMount) (st : Represents s m) (caller handle : ℕ) where
  node_is : node_of s.handles.live caller handle ≡ node_of m.handles caller handle
  node_is = ap (λ (hs : HandleList). node_of hs caller handle) st.handles.live

  module _ (n : ℕ) (led : node_of s.handles.live caller handle ≡ Some n) where
    in_mount : node_of m.handles caller handle ≡ Some n
    in_mount = sym node_is ∙ led

    held : has_handle m.handles n ≡ true
    held = handle_there m.handles caller handle n in_mount

    -- neither a directory nor a file: that can't be
    pub other_at : (IsDirAt s.disk n → ⊥) → (IsFileAt s.disk n → ⊥) → ⊥
    other_at no_dir no_file =
        let on = and_parts (is_some (get m.nodes n)) (not (is_link_at m.nodes n)) (st.well.handles.on n held) in
        let no_link : is_link_at m.nodes n ≡ false = elim (cases_Bool (is_link_at m.nodes n)) [
          | inl link ↦ absurd (true≢false (sym on.1 ∙ ap not link))
          | inr free ↦ free
        ] in
        dir_or_file m.raws n (get m.nodes n) on.0 no_link
        (λ is. no_dir (subst (of_node ⊥ (λ node. IsDir node.body)) (sym (st.tree.nodes n)) is))
        (λ is. no_file (subst (of_node ⊥ (λ node. IsFile node.body)) (sym (st.tree.nodes n)) is))

    -- a file
    pub file_at : IsFileAt s.disk n → IsOpen m n
    file_at file =
        let is = file_from m.raws n (get m.nodes n) (subst (of_node ⊥ (λ node. IsFile node.body)) (st.tree.nodes n) file) in
        record { is_file = is.0; held = held }

    pub answered_at : IsFileAt s.disk n → (f : ℕ → Answer) → at_file m caller handle f ≡ f n
    answered_at file f =
        let is = file_from m.raws n (get m.nodes n) (subst (of_node ⊥ (λ node. IsFile node.body)) (st.tree.nodes n) file) in
        ap (λ o. at_handle m o (λ k. cond (is_dir_at m.nodes k) (refusal_with m IsDirectory) (f k))) in_mount
        ∙ ap (λ b. cond b (refusal_with m IsDirectory) (f n)) is.1
