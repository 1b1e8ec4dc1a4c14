-- What a creation is refused, cause by cause, and what the place of a name contains.
use Rattle.std.proofs.Common.{◌≡◌, ℕ, Bool, true, false, cond, not, ◌||◌, List, [], ◌∷◌, length, Option, Some, None, option_map, is_some, Ok, Err, bytes_eq, refl, sym, ap, subst, ◌∙◌, arith, Result, IfOk, IfErr}
use Rattle.std.specs.Map.{lookup, lookup_entry}
use Rattle.std.proofs.lemmas.Bool.{true≢false, ne_eqb}
use Rattle.policy_ctx.specs.declared.policy.Context.{Context}
use Rattle.user_claims.specs.ClaimCounts.{is_present}
use Rattle.fsc_keys.specs.declared.file_keys.KeyKind.TheVariants.{Names}
use Rattle.name_crypt.specs.Plain.{IsPlain}
use Rattle.number_map.specs.Numbered.{get}
use Rattle.plain_tree.specs.Nodes.{Name, Children, Node, Body, Dir, File, Link}
use Rattle.plain_tree.specs.NodesByNumber.{children, context_at, is_dir_in, is_dir_at, entry}
use Rattle.disk_tree.specs.DiskTree.{Disk}
use Rattle.mount_model.specs.declared.reply.Refusal.{Refusal}
use Rattle.mount_model.specs.declared.reply.Refusal.TheVariants.{NoKey, Exists, NameTooLong, NoSpace, NoKeyClash}
use Rattle.mount_model.specs.PlainMount.{PlainMount}
use Rattle.mount_model.specs.OpenHandles.{has_handle}
use Rattle.mount_model.specs.States.{is_keyed_under}
use Rattle.mount_model.specs.Walk.{PathParts}
use Rattle.mount_model.specs.EntryPaths.{is_root, last_part, parent}
use Rattle.mount_model.specs.WellFormed.{IsWellFormed}
use Rattle.mount_model.specs.SoundNodes.{IsName}
use Rattle.mount_model.specs.NameAnswers.{is_full, is_long_target, answer_to_make_in, answer_to_make}
use Rattle.mount_model.specs.NewNodes.{new_node, with_node}
use Rattle.mount_model.specs.EncryptedNames.{lacks_key, clashes}
use Rattle.mount_model.specs.AnswerForms.{Answer, refusal_with, done, at_node}
use Rattle.mount_model.specs.Carried.{IsPath}
use Rattle.mount_model.proofs.TreeCalls.{is_name}
use Rattle.mount_model.proofs.WalkLemmas.{parent_ok}
use Rattle.mount_state.specs.Represents.{Represents, RepresentsTree}
use Rattle.mount_state.specs.CachedKeys.{plain_kind}
use Rattle.mount_state.specs.declared.state.MountState.{MountState}
use Rattle.mount_names.specs.NewPlaces.{IsAskedIn, IsNewName, IsPlaceOf}
use Rattle.mount_names.specs.Places.{Place}
use Rattle.mount_names.specs.VisibleNames.{HasNames}

-- ---- the refusals, in their order

module _ (m : PlainMount) (name : Name) (nonce : List ℕ) (body : Body) (d : ℕ) where
  abbrev after_clash : Answer
  after_clash = cond (is_full m d) (refusal_with m NoSpace) (done (with_node m d name (new_node m d nonce body)))

  abbrev after_long : Answer
  after_long = cond (clashes m d name) (refusal_with m NoKeyClash) after_clash

  abbrev after_free : Answer
  after_free = cond (is_long_target body) (refusal_with m NameTooLong) after_long

  module _ (keyed : lacks_key m (context_at m.nodes d) ≡ false) where
    pub refused_taken : is_some (entry m.nodes d name) ≡ true → answer_to_make_in m name nonce body d ≡ refusal_with m Exists
    refused_taken taken = λ i. cond (keyed i) (refusal_with m NoKey) (cond (taken i) (refusal_with m Exists) after_free)

    module _ (free : is_some (entry m.nodes d name) ≡ false) where
      pub refused_long : is_long_target body ≡ true → answer_to_make_in m name nonce body d ≡ refusal_with m NameTooLong
      refused_long long = λ i. cond (keyed i) (refusal_with m NoKey) (cond (free i) (refusal_with m Exists) (cond (long i) (refusal_with m NameTooLong) after_long))

      module _ (short : is_long_target body ≡ false) where
        pub refused_clash : clashes m d name ≡ true → answer_to_make_in m name nonce body d ≡ refusal_with m NoKeyClash
        refused_clash clash =
            λ i. cond (keyed i) (refusal_with m NoKey) (cond (free i) (refusal_with m Exists) (cond (short i) (refusal_with m NameTooLong) (cond (clash i) (refusal_with m NoKeyClash) after_clash)))

        module _ (apart : clashes m d name ≡ false) where
          pub refused_full : is_full m d ≡ true → answer_to_make_in m name nonce body d ≡ refusal_with m NoSpace
          refused_full full =
              λ i. cond (keyed i) (refusal_with m NoKey) (cond (free i) (refusal_with m Exists) (cond (short i) (refusal_with m NameTooLong) (cond (apart i) (refusal_with m NoKeyClash)
              (cond (full i) (refusal_with m NoSpace) (done (with_node m d name (new_node m d nonce body)))))))

          pub not_refused : is_full m d ≡ false → answer_to_make_in m name nonce body d ≡ done (with_node m d name (new_node m d nonce body))
          not_refused room =
              λ i. cond (keyed i) (refusal_with m NoKey) (cond (free i) (refusal_with m Exists) (cond (short i) (refusal_with m NameTooLong) (cond (apart i) (refusal_with m NoKeyClash)
              (cond (room i) (refusal_with m NoSpace) (done (with_node m d name (new_node m d nonce body)))))))

-- ---- at the end of a path

not_root : (path : PathParts) → ((path ≡ []) → ⊥) → is_root path ≡ false
not_root [] some = absurd (some refl)
not_root (p ∷ ps) some = ne_eqb (length (p ∷ ps)) 0 (λ bad. absurd (omega arith))

pub some_parts : (path : PathParts) (b : Bool) → b ≡ false → (path ≡ [] → b ≡ true) → is_root path ≡ false
some_parts path b off empty = not_root path (λ is. true≢false (sym (empty is) ∙ off))

pub both_named : (p q : PathParts) (a b : Bool) → a ≡ false → (p ≡ [] → a ≡ true) → b ≡ false → (q ≡ [] → b ≡ true) → (is_root p || is_root q) ≡ false
both_named p q a b off empty other_off other_empty = λ i. some_parts p a off empty i || some_parts q b other_off other_empty i

pub at_parent : (m : PlainMount) (path : PathParts) (nonce : List ℕ) (body : Body) (d : ℕ) → is_root path ≡ false → Ok d ≡ parent m path
    → answer_to_make m path nonce body ≡ answer_to_make_in m (last_part path) nonce body d
at_parent m path nonce body d named led =
    λ i. cond (named i) (refusal_with m Exists) (at_node m (sym led i) (answer_to_make_in m (last_part path) nonce body))

-- what holds in the directory holds at the path
module _ (m : PlainMount) (path : PathParts) (d : ℕ) (part : Name) (named : is_root path ≡ false) (led : Ok d ≡ parent m path) (part_is : part ≡ last_part path) (fits : IsPath path) where
  pub dir_here : is_dir_at m.nodes d ≡ true
  dir_here = (parent_ok m path d (sym led)).dir

  pub name_here : IsName part
  name_here = subst IsName (sym part_is) (is_name m path d fits named (parent_ok m path d (sym led)))

  pub refused_here : (nonce : List ℕ) (body : Body) (r : Refusal) → answer_to_make_in m part nonce body d ≡ refusal_with m r → answer_to_make m path nonce body ≡ refusal_with m r
  refused_here nonce body r is =
      at_parent m path nonce body d named led
      ∙ (ap (λ (p : Name). answer_to_make_in m p nonce body d) (sym part_is) ∙ is)

pub err_then : {T E : Type 0} {P Q : E → Type 0} (r : Result T E) → IfErr r P → ((e : E) → P e → Q e) → IfErr r Q
err_then (Ok x) is f = is
err_then (Err e) is f = f e is

pub ok_then : {T E : Type 0} {P R Q : T → Type 0} (r : Result T E) → IfOk r P → IfOk r R → ((x : T) → P x → R x → Q x) → IfOk r Q
ok_then (Ok x) is too f = f x is too
ok_then (Err e) is too f = is

-- ---- what the place of a name contains

pub name_plain : (name : Name) → IsName name → IsPlain name
name_plain name is = (is.0.size.0, is.1, is.0.nul)

keyed_under : (m : PlainMount) (n : ℕ) (o : Option Context) → lacks_key m o ≡ false → is_keyed_under m n o ≡ true
keyed_under m n None lacks = refl
keyed_under m n (Some c) lacks = ap (λ b. b || has_handle m.handles n) (held (is_present m.claims c.policy.id) lacks)
  where
    held : (b : Bool) → not b ≡ false → b ≡ true
    held true is = refl
    held false is = sym is

dir_kind : (o : Option Node) → is_dir_in o ≡ true → plain_kind o ≡ Names
dir_kind None bad = refl
dir_kind (Some v) is = at v.body is
  where
    at : (b : Body) → is_dir_in (Some (record v { body = b })) ≡ true → plain_kind (Some (record v { body = b })) ≡ Names
    at (Dir children) is = refl
    at (File contents) bad = absurd (true≢false (sym bad))
    at (Link target) bad = refl

pub by_itself : (part : Name) (show : Name → Name) (cs : Children) → ((n : Name) → show n ≡ n)
    → option_map (λ (e : Name × ℕ). e.1) (lookup_entry (λ n. bytes_eq part (show n)) cs) ≡ lookup (bytes_eq part) cs
by_itself part show [] itself = refl
by_itself part show (c ∷ cs) itself =
    ap (λ b. option_map (λ (e : Name × ℕ). e.1) (cond b (Some c) (lookup_entry (λ n. bytes_eq part (show n)) cs))) (ap (bytes_eq part) (itself c.0))
    ∙ (elim (bytes_eq part c.0) as (λ b. option_map (λ (e : Name × ℕ). e.1) (cond b (Some c) (lookup_entry (λ n. bytes_eq part (show n)) cs)) ≡ cond b (Some c.1) (lookup (bytes_eq part) cs)) [
      | true ↦ refl
      | false ↦ by_itself part show cs itself
    ])

module _ (disk : Disk) (next : ℕ) (m : PlainMount) (well : IsWellFormed m) (tree : RepresentsTree disk next m) (d : ℕ) (is_dir : is_dir_at m.nodes d ≡ true) where
  pub dir_names : HasNames m d
  dir_names = dir_kind (get m.nodes d) is_dir

-- a directory whose key is present is keyed
pub asked_here : (s : MountState) (m : PlainMount) → Represents s m → (d : ℕ) → is_dir_at m.nodes d ≡ true → (name : Name) → IsName name
    → (context : Option Context) → context ≡ context_at m.nodes d → (lacks : Bool) → lacks ≡ lacks_key m context → lacks ≡ false
    → IsAskedIn s m d context name × (lacks_key m (context_at m.nodes d) ≡ false)
asked_here s m st d is_dir name named context is lacks lacks_is holds =
    let held : lacks_key m (context_at m.nodes d) ≡ false = ap (lacks_key m) (sym is) ∙ (sym lacks_is ∙ holds) in (
      record { represents = st; is_dir = is_dir; named = named; keyed = keyed_under m d (context_at m.nodes d) held; context = is },
      held,
    )

-- the place of a new name of the directory is there
module _ (m : PlainMount) (d : ℕ) (name : Name) (place : Place) (at : IsNewName m d name place) where
  pub placed_here : IsNewName m place.dir name place
  placed_here = subst (λ (x : ℕ). IsNewName m x name place) (sym at.dir) at

  pub clash_here : (b : Bool) → b ≡ clashes m place.dir name → b ≡ clashes m d name
  clash_here b is = is ∙ ap (λ (x : ℕ). clashes m x name) at.dir

  pub place_here : lacks_key m (context_at m.nodes d) ≡ false → clashes m d name ≡ false → is_full m d ≡ false → IsPlaceOf m name place
  place_here held apart room = record {
    context = placed_here.context;
    stored = placed_here.stored;
    keyed = ap (λ (x : ℕ). lacks_key m (context_at m.nodes x)) at.dir ∙ held;
    free = placed_here.free;
    apart = ap (λ (x : ℕ). clashes m x name) at.dir ∙ apart;
    room = ap (λ (x : ℕ). is_full m x) at.dir ∙ room;
  }
