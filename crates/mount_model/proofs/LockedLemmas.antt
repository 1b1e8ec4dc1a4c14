-- A node that is not keyed shows texts alone.
use Rattle.std.proofs.Common.{◌≡◌, ◌⊎◌, ◌↔◌, ℕ, Bool, true, false, cond, not, ◌||◌, List, [], ◌∷◌, map, take, drop, length, ◌+◌, nat_lt, Ok, Option, Some, inl, inr, refl, ap, ap₂, sym, ◌∙◌}
use Rattle.std.proofs.lemmas.Bool.{cond-true, cond-false, or_cases}
use Rattle.policy_ctx.specs.declared.policy.Context.{Context}
use Rattle.user_claims.specs.ClaimCounts.{is_present}
use Rattle.number_map.specs.Numbered.{get}
use Rattle.plain_tree.specs.Nodes.{Name, Children, Node, Body, Dir, File, Link}
use Rattle.plain_tree.specs.NodesByNumber.{children, context_at, is_dir_at}
use Rattle.mount_model.specs.declared.limits.TheConstants.{MAX_LISTED}
use Rattle.mount_model.specs.declared.reply.Reply.TheVariants as reply
use Rattle.mount_model.specs.declared.reply.Refusal.TheVariants.{NoKey, NotDir, Inval}
use Rattle.mount_model.specs.PlainMount.{PlainMount}
use Rattle.mount_model.specs.OpenHandles.{has_handle}
use Rattle.mount_model.specs.Sealed.{texts}
use Rattle.mount_model.specs.States.{is_keyed, is_keyed_under, shown, visible_name_under}
use Rattle.mount_model.specs.Walk.{PathParts, walk_path}
use Rattle.mount_model.specs.AnswerForms.{Answer, refusal_with, unchanged_with, at_node}
use Rattle.mount_model.specs.ListAnswers.{in_order, page_at, page_of, answer_to_list}
use Rattle.mount_model.specs.LookAnswers.{answer_to_read_link, target_answer}
use Rattle.mount_model.specs.OpenAnswers.{is_link_at, is_out_of_handles, open_answer, opened_on, answer_to_open}
use Rattle.mount_model.specs.LockedNodes.{texts_in, ShowsTextsAlone, LockedNodesShowTexts, KeysOrHandlesKeyNodes}

module _ (m : PlainMount) (n : ℕ) (c : Context) (under : context_at m.nodes n ≡ Some c) (locked : is_keyed m n ≡ false) where
  is_text : (name : Name) → shown m n name ≡ texts m.raws n c name
  is_text name = ap (visible_name_under m n name) under ∙ ap (λ b. cond b name (texts m.raws n c name)) locked

  are_texts : (cs : Children) → map (λ e. shown m n e.0) cs ≡ map (λ e. texts m.raws n c e.0) cs
  are_texts [] = refl
  are_texts (e ∷ cs) = ap₂ (λ (x : Name) (l : List Name). x ∷ l) (is_text e.0) (are_texts cs)

  at_listing : (path : PathParts) (start : ℕ) → walk_path m path ≡ Ok n → is_dir_at m.nodes n ≡ true
      → answer_to_list m path start ≡ unchanged_with m (reply.Names (take MAX_LISTED (drop start (texts_in m n c))) (nat_lt (start + MAX_LISTED) (length (texts_in m n c))))
  at_listing path start led dir =
      ap (λ w. at_node m w (page_at m start)) led
      ∙ cond-false (not (is_dir_at m.nodes n)) (refusal_with m NotDir) (unchanged_with m (page_of m n start)) (ap not dir)
      ∙ ap (λ (l : List Name). unchanged_with m (reply.Names (take MAX_LISTED (drop start (in_order l))) (nat_lt (start + MAX_LISTED) (length (in_order l)))))
      (are_texts (children m.nodes n))

  at_opening : (caller : ℕ) (path : PathParts) → walk_path m path ≡ Ok n → is_link_at m.nodes n ≡ false → answer_to_open m caller path ≡ refusal_with m NoKey
  at_opening caller path led no_link =
      ap (λ w. at_node m w (open_answer m caller)) led
      ∙ cond-false (is_link_at m.nodes n) (refusal_with m Inval) _ no_link
      ∙ cond-true (not (is_keyed m n)) (refusal_with m NoKey) _ (ap not locked)

  at_target : (path : PathParts) (v : Node) (name : Name) → walk_path m path ≡ Ok n → get m.nodes n ≡ Some v → v.body ≡ Link name
      → answer_to_read_link m path ≡ unchanged_with m (reply.Target (texts m.raws n c name))
  at_target path v name led there link =
      ap (λ w. at_node m w (λ x. target_answer m x (get m.nodes x))) led
      ∙ ap (λ (o : Option Node). target_answer m n o) there
      ∙ by v.body link
      ∙ ap (λ (x : Name). unchanged_with m (reply.Target x)) (is_text name)
    where
      by : (b : Body) → b ≡ Link name → target_answer m n (Some (record v { body = b })) ≡ unchanged_with m (reply.Target (shown m n name))
      by b is = ap (λ (x : Body). target_answer m n (Some (record v { body = x }))) is

  pub shows_texts : ShowsTextsAlone m n c
  shows_texts = record { listing = at_listing; opening = at_opening; target = at_target }

pub locked_show_texts : LockedNodesShowTexts
locked_show_texts = shows_texts

pub what_keys_nodes : KeysOrHandlesKeyNodes
what_keys_nodes m n c under =
    let is : is_keyed m n ≡ (is_present m.claims c.policy.id || has_handle m.handles n) = ap (is_keyed_under m n) under in (
      (λ keyed. or_cases (is_present m.claims c.policy.id) (has_handle m.handles n) (sym is ∙ keyed)),
      (λ one. is ∙ either (is_present m.claims c.policy.id) (has_handle m.handles n) one),
    )
  where
    either : (a b : Bool) → (a ≡ true) ⊎ (b ≡ true) → (a || b) ≡ true
    either true b one = refl
    either false b (inl h) = absurd (cc h)
    either false b (inr h) = h
