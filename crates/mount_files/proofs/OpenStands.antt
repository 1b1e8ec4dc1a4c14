-- A state in which a handle was opened represents the mount in which it was.
use Rattle.std.proofs.Common.{◌≡◌, ℕ, ◌+◌, Bool, true, false, cond, not, ◌&&◌, ◌||◌, [], ◌∷◌, ◌++◌, length, nat_le, Option, Some, None, option_map, is_some, Ok, inl, refl, sym, ap, subst, ◌∙◌}
use Rattle.std.specs.Option.{option_map_or}
use Rattle.std.proofs.lemmas.Bool.{or_parts, leb-false, true≢false}
use Rattle.policy_ctx.specs.declared.policy.Context.{Context}
use Rattle.number_map.specs.Numbered.{get, insert}
use Rattle.key_ring.specs.Holding.{Holding, secret_of}
use Rattle.plain_tree.specs.Nodes.{Node, Body, Dir, File, Link, is_link}
use Rattle.plain_tree.specs.NodesByNumber.{is_named_in}
use Rattle.plain_tree.specs.Facts.{AgreesBy}
use Rattle.plain_tree.proofs.ReachedLemmas.{reached_named}
use Rattle.disk_tree.specs.DiskTree.{Disk}
use Rattle.disk_tree.specs.declared.node.StoredNode.{StoredNode}
use Rattle.mount_model.specs.declared.reply.Reply.{Reply}
use Rattle.mount_model.specs.declared.reply.Reply.TheVariants.{Opened, Refused}
use Rattle.mount_model.specs.declared.reply.Refusal.{Refusal}
use Rattle.mount_model.specs.declared.reply.Refusal.TheVariants.{Inval, NoKey, NoSpace}
use Rattle.mount_model.specs.declared.limits.TheConstants.{MAX_HANDLES, MAX_OPENS}
use Rattle.mount_model.specs.ClaimHistory.{is_refused}
use Rattle.mount_model.specs.PlainMount.{PlainMount, Raws}
use Rattle.mount_model.specs.OpenHandles.{opens_of}
use Rattle.mount_model.specs.States.{is_keyed}
use Rattle.mount_model.specs.AnswerForms.{Answer, refusal_with, at_node}
use Rattle.mount_model.specs.OpenAnswers.{is_link_at, is_out_of_handles, opened_on, open_answer, with_handle, answer_to_open}
use Rattle.mount_model.specs.Walk.{PathParts, WalkResult, walk_path}
use Rattle.mount_model.specs.WellFormed.{IsWellFormed}
use Rattle.mount_model.proofs.OpenLemmas.{opened_well}
use Rattle.mount_model.proofs.WalkLemmas.{walked_reached}
use Rattle.mount_state.specs.AnswerOf.{IsAnswerOrNoMemory}
use Rattle.dentry_cache.specs.Names.{NameList, NameList}
use Rattle.mount_state.specs.CachedNames.{RepresentsNames, RepresentsNames}
use Rattle.mount_state.specs.Handles.{Handles, is_full, with_handle as with_new}
use Rattle.mount_state.specs.SameButCaches.{SameButCaches}
use Rattle.mount_state.specs.Stored.{stored_node, stored_body}
use Rattle.mount_state.specs.Represents.{Represents, RepresentsTree, RepresentsHandles}
use Rattle.mount_state.specs.CachedKeys.{RepresentsCaches}
use Rattle.mount_state.specs.declared.state.MountState.{MountState}
use Rattle.mount_files.specs.Opening.{is_link_body, OpensWithNextHandle, OpensOne}

-- ---- what is on the disk

there_alike : {X Y : Type 0} (f : X → Y) (o : Option X) → is_some (option_map f o) ≡ is_some o
there_alike f None = refl
there_alike f (Some x) = refl

abbrev is_link_of : Option Node → Bool
is_link_of o = option_map_or (λ v. is_link v.body) o false

link_alike : (raws : Raws) (n : ℕ) (context : Option Context) (b : Body) → is_link_body (stored_body raws n context b) ≡ is_link b
link_alike raws n context (Dir cs) = refl
link_alike raws n context (File contents) = refl
link_alike raws n context (Link target) = refl

module _ (disk : Disk) (next : ℕ) (m : PlainMount) (tree : RepresentsTree disk next m) (n : ℕ) where
  pub lies_there : is_some (get disk n) ≡ is_some (get m.nodes n)
  lies_there = ap (λ o. is_some o) (tree.nodes n) ∙ there_alike (stored_node m.raws n) (get m.nodes n)

  pub link_lies : (stored : StoredNode) → get disk n ≡ Some stored → is_link_body stored.body ≡ is_link_at m.nodes n
  link_lies stored is = at (get m.nodes n) refl
    where
      at : (o : Option Node) → get m.nodes n ≡ o → is_link_body stored.body ≡ is_link_at m.nodes n
      at None none = let bad : Some stored ≡ None = sym is ∙ tree.nodes n ∙ ap (option_map (stored_node m.raws n)) none in absurd (cc)
      at (Some v) there =
          let both : Some stored ≡ Some (stored_node m.raws n v) = sym is ∙ tree.nodes n ∙ ap (option_map (stored_node m.raws n)) there in
          let same : stored ≡ stored_node m.raws n v = cc in
          ap (λ (x : StoredNode). is_link_body x.body) same ∙ link_alike m.raws n v.context v.body
          ∙ sym (ap (λ (o : Option Node). is_link_of o) there)

-- ---- the answer

module _ (m : PlainMount) (caller n : ℕ) where
  pub told_link : is_link_at m.nodes n ≡ true → open_answer m caller n ≡ refusal_with m Inval
  told_link link = λ i. cond (link i) (refusal_with m Inval) (cond (not (is_keyed m n)) (refusal_with m NoKey)
      (cond (is_out_of_handles m caller) (refusal_with m NoSpace) (opened_on m caller n)))

  pub told_locked : is_link_at m.nodes n ≡ false → is_keyed m n ≡ false → open_answer m caller n ≡ refusal_with m NoKey
  told_locked link locked = λ i. cond (link i) (refusal_with m Inval) (cond (not (locked i)) (refusal_with m NoKey)
      (cond (is_out_of_handles m caller) (refusal_with m NoSpace) (opened_on m caller n)))

  pub told_full : is_link_at m.nodes n ≡ false → is_keyed m n ≡ true → is_out_of_handles m caller ≡ true → open_answer m caller n ≡ refusal_with m NoSpace
  told_full link keyed full = λ i. cond (link i) (refusal_with m Inval) (cond (not (keyed i)) (refusal_with m NoKey)
      (cond (full i) (refusal_with m NoSpace) (opened_on m caller n)))

  pub told_opened : is_link_at m.nodes n ≡ false → is_keyed m n ≡ true → is_out_of_handles m caller ≡ false → open_answer m caller n ≡ opened_on m caller n
  told_opened link keyed room = λ i. cond (link i) (refusal_with m Inval) (cond (not (keyed i)) (refusal_with m NoKey)
      (cond (room i) (refusal_with m NoSpace) (opened_on m caller n)))

-- a refusal that is returned, and the mount that it leaves
pub refusal_given : (m : PlainMount) (answer : Answer) (refusal : Refusal) (s : MountState) → answer ≡ refusal_with m refusal → Represents s m
    → IsAnswerOrNoMemory m answer (Refused refusal) s
refusal_given m answer refusal s is st = inl (
  sym (ap (λ (a : Answer). a.reply) is),
  subst (Represents s) (sym (ap (λ (a : Answer). a.mount) is)) st,
)

pub refusal_told : (m : PlainMount) (answer : Answer) (refusal : Refusal) → answer ≡ refusal_with m refusal → Refused refusal ≡ answer.reply
refusal_told m answer refusal is = sym (ap (λ (a : Answer). a.reply) is)

pub not_denied : (m : PlainMount) (caller n : ℕ) (answer : Answer) → answer ≡ opened_on m caller n → is_refused answer.reply ≡ true → ⊥
not_denied m caller n answer is denied = true≢false (sym denied ∙ ap (λ (a : Answer). is_refused a.reply) is)

-- ---- well-formed mounts

pub open_well : (m : PlainMount) (caller n : ℕ) → IsWellFormed m → is_some (get m.nodes n) ≡ true → is_link_at m.nodes n ≡ false
    → is_out_of_handles m caller ≡ false → IsWellFormed (with_handle m caller n)
open_well m caller n well there link free =
    let room = or_parts (nat_le MAX_HANDLES (length m.handles)) (nat_le MAX_OPENS (opens_of m.opened caller)) free in
    record {
      keys = well.keys;
      nodes = well.nodes;
      handles = opened_well m.nodes m.handles m.opened well.handles caller n
          (λ k. there k && not (link k))
          (leb-false MAX_HANDLES (length m.handles) room.0)
          (leb-false MAX_OPENS (opens_of m.opened caller) room.1);
      records = well.records;
    }

named_there : (o : Option Node) → is_named_in o ≡ true → is_some o ≡ true
named_there None is = is
named_there (Some v) is = refl

-- what a walk reached is there
pub walked_there : (m : PlainMount) (path : PathParts) (n : ℕ) → IsWellFormed m → walk_path m path ≡ Ok n → is_some (get m.nodes n) ≡ true
walked_there m path n well is =
    named_there (get m.nodes n) (reached_named m.nodes well.nodes.tree.root well.nodes.tree.names (walked_reached m path n is))

-- ---- the state represents the mount

pub opened_stands : (old new : MountState) (m : PlainMount) (caller n : ℕ) → Represents old m → OpensOne old new caller n
    → RepresentsCaches new.inodes new.modes m → new.names ≡ old.names → IsWellFormed (with_handle m caller n) → Represents new (with_handle m caller n)
opened_stands old new m caller n st opens caches names well = record {
  well = well;
  tree = record {
    nodes = subst (λ (d : Disk). AgreesBy (stored_node m.raws) m.nodes d) (sym opens.same.disk) st.tree.nodes;
    next = opens.same.next_node ∙ st.tree.next;
  };
  keys = record {
    claims = ap (λ (r : Holding). r.claims) opens.same.ring ∙ st.keys.claims;
    secrets = λ id raw there. st.keys.secrets id raw (ap (λ (r : Holding). secret_of r id) (sym opens.same.ring) ∙ there);
  };
  handles = record {
    live = ap (λ (h : Handles). h.live) opens.handles
        ∙ (λ i. st.handles.live i ++ record { caller = caller; number = opens_of (st.handles.opened i) caller; node = n } ∷ []);
    opened = ap (λ (h : Handles). h.opened) opens.handles
        ∙ (λ i. insert (st.handles.opened i) caller (opens_of (st.handles.opened i) caller + 1));
  };
  caches = record { file_keys = caches.file_keys; mode_keys = caches.mode_keys };
  names = subst (λ (x : NameList). RepresentsNames x m.nodes) (sym names) st.names;
  records = opens.same.meta ∙ st.records;
}

pub kept_stands : (old new : MountState) (m : PlainMount) → Represents old m → SameButCaches old new → RepresentsCaches new.inodes new.modes m → new.names ≡ old.names → Represents new m
kept_stands old new m st same caches names = record {
  well = st.well;
  tree = record {
    nodes = subst (λ (d : Disk). AgreesBy (stored_node m.raws) m.nodes d) (sym same.disk) st.tree.nodes;
    next = same.next_node ∙ st.tree.next;
  };
  keys = record {
    claims = ap (λ (r : Holding). r.claims) same.ring ∙ st.keys.claims;
    secrets = λ id raw there. st.keys.secrets id raw (ap (λ (r : Holding). secret_of r id) (sym same.ring) ∙ there);
  };
  handles = record {
    live = ap (λ (h : Handles). h.live) same.handles ∙ st.handles.live;
    opened = ap (λ (h : Handles). h.opened) same.handles ∙ st.handles.opened;
  };
  caches = caches;
  names = subst (λ (x : NameList). RepresentsNames x m.nodes) (sym names) st.names;
  records = same.meta ∙ st.records;
}

-- the handle was opened under the number that the mount answers
pub opened_given : (m : PlainMount) (caller n : ℕ) (answer : Answer) (number : ℕ) (new : MountState) → answer ≡ opened_on m caller n
    → number ≡ opens_of m.opened caller → Represents new (with_handle m caller n) → IsAnswerOrNoMemory m answer (Opened number) new
opened_given m caller n answer number new is count st = inl (
  ap Opened count ∙ sym (ap (λ (a : Answer). a.reply) is),
  subst (Represents new) (sym (ap (λ (a : Answer). a.mount) is)) st,
)

-- the handle that is opened after a walk is the one more
pub opened_after : (old walk_path new : MountState) (caller : ℕ) (reply : Reply) → SameButCaches old walk_path → OpensWithNextHandle walk_path new caller reply → OpensWithNextHandle old new caller reply
opened_after old walk_path new caller reply same told = record {
  node = told.node;
  one = record {
    same = record {
      disk = told.one.same.disk ∙ same.disk;
      next_node = told.one.same.next_node ∙ same.next_node;
      ring = told.one.same.ring ∙ same.ring;
      meta = told.one.same.meta ∙ same.meta;
      keys = tt;
      pins = tt;
      handles = tt;
      modes = tt;
      names = tt;
    };
    handles = told.one.handles ∙ ap (λ (hs : Handles). with_new hs caller told.node) same.handles;
  };
  number = told.number ∙ ap (λ (hs : Handles). Opened (opens_of hs.opened caller)) same.handles;
}

-- ---- at the node that the path resolves to

module _ (m : PlainMount) (caller : ℕ) (path : PathParts) (n : ℕ) (led : Ok n ≡ walk_path m path) (reply : Reply) where
  pub at_given : (new : MountState) → IsAnswerOrNoMemory m (open_answer m caller n) reply new → IsAnswerOrNoMemory m (answer_to_open m caller path) reply new
  at_given new given = subst (λ (w : WalkResult). IsAnswerOrNoMemory m (at_node m w (open_answer m caller)) reply new) led given

  pub at_denied : (is_refused (open_answer m caller n).reply ≡ true → reply ≡ (open_answer m caller n).reply)
      → is_refused (answer_to_open m caller path).reply ≡ true → reply ≡ (answer_to_open m caller path).reply
  at_denied = subst (λ (w : WalkResult). (is_refused (open_answer m caller n).reply ≡ true → reply ≡ (open_answer m caller n).reply)
      → is_refused (at_node m w (open_answer m caller)).reply ≡ true → reply ≡ (at_node m w (open_answer m caller)).reply) led (λ denied. denied)

pub out_stands : (handles : Handles) (m : PlainMount) → RepresentsHandles handles m → (caller : ℕ) → is_full handles caller ≡ is_out_of_handles m caller
out_stands handles m st caller =
    λ i. nat_le MAX_HANDLES (length (st.live i)) || nat_le MAX_OPENS (opens_of (st.opened i) caller)
