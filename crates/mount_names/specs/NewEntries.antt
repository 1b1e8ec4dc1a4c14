-- How a creation is refused, and what it leaves.
use Rattle.std.specs.Prelude.{◌≡◌, ℕ, Bool, true, false, List}
use Rattle.plain_tree.specs.Nodes.{Name, Body, Link}
use Rattle.plain_tree.specs.NodesByNumber.{is_dir_at}
use Rattle.mount_model.specs.declared.reply.Refusal.{Refusal}
use Rattle.mount_model.specs.PlainMount.{PlainMount}
use Rattle.mount_model.specs.AnswerForms.{refusal_with}
use Rattle.mount_model.specs.NameAnswers.{is_long_target, answer_to_make_in, answer_to_make}
use Rattle.mount_model.specs.NewNodes.{inherited_context}
use Rattle.mount_model.specs.Walk.{PathParts}
use Rattle.mount_model.specs.WellFormed.{IsWellFormed}
use Rattle.mount_model.specs.SoundNodes.{IsName}
use Rattle.mount_model.specs.Carried.{IsPath, IsTarget}
use Rattle.mount_state.specs.Represents.{Represents}
use Rattle.mount_state.specs.declared.state.MountState.{MountState}
use Rattle.mount_state.specs.Stored.{stored_body}
use Rattle.disk_tree.specs.declared.node.Body.{Body as StoredBody}
use Rattle.mount_model.specs.declared.reply.Reply.{Reply}
use Rattle.mount_state.specs.AnswerOf.{IsAnswerOrNoMemory}
use Rattle.mount_names.specs.Places.{Place}
use Rattle.mount_names.specs.NewPlaces.{IsPlaceAt}

-- a creation of the name in the directory is refused so, whatever is to be made that has such a target
abbrev pub IsRefusedIn : MountState → ℕ → Name → Bool → Refusal → Type 0
IsRefusedIn s d name long refusal = (m : PlainMount) (nonce : List ℕ) (body : Body) → Represents s m
    → is_dir_at m.nodes d ≡ true → IsName name → is_long_target body ≡ long
    → answer_to_make_in m name nonce body d ≡ refusal_with m refusal

-- the same of a creation at the end of the path
abbrev pub IsPlaceRefused : MountState → PathParts → Bool → Refusal → Type 0
IsPlaceRefused s path long refusal = (m : PlainMount) (nonce : List ℕ) (body : Body) → Represents s m
    → IsPath path → is_long_target body ≡ long → answer_to_make m path nonce body ≡ refusal_with m refusal

-- the body is made there, as the call that creates it answers
abbrev pub MakesAt : MountState → MountState → Place → List ℕ → StoredBody → Reply → Type 0
MakesAt old new place nonce stored reply = (m : PlainMount) (path : PathParts) (body : Body)
    → Represents old m → IsPlaceAt m path place
    → is_long_target body ≡ false
    → stored ≡ stored_body m.raws m.next (inherited_context nonce place.context) body
    → IsWellFormed (answer_to_make m path nonce body).mount
    → IsAnswerOrNoMemory m (answer_to_make m path nonce body) reply new

-- the symlink is made there, as the call that creates it answers
abbrev pub LinksAt : MountState → MountState → Place → List ℕ → List ℕ → Reply → Type 0
LinksAt old new place nonce target reply = (m : PlainMount) (path : PathParts) → Represents old m
    → IsPlaceAt m path place → is_long_target (Link target) ≡ false → IsTarget target
    → IsWellFormed (answer_to_make m path nonce (Link target)).mount
    → IsAnswerOrNoMemory m (answer_to_make m path nonce (Link target)) reply new
