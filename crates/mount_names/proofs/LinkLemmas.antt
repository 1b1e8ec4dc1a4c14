-- The target of a symlink that is made, as it is stored.
use Rattle.std.proofs.Common.{◌≡◌, ℕ, Bool, true, false, not, List, [], Option, Some, None, option_map, inl, refl, sym, ap}
use Rattle.policy_ctx.specs.declared.policy.Context.{Context}
use Rattle.name_crypt.specs.declared.cipher.NameCipher.{NameCipher}
use Rattle.number_map.specs.Numbered.{insert}
use Rattle.number_map.proofs.NumberedLemmas.{insert_here}
use Rattle.key_ring.specs.Holding.{Holding, HoldsClaimedSecrets}
use Rattle.plain_tree.specs.Nodes.{Node, Link}
use Rattle.plain_tree.specs.NodesByNumber.{context_in, context_at}
use Rattle.mount_model.specs.PlainMount.{PlainMount}
use Rattle.mount_model.specs.Carried.{IsPath, IsTarget}
use Rattle.mount_model.specs.NameAnswers.{answer_to_make}
use Rattle.mount_model.specs.NewNodes.{inherited_context}
use Rattle.mount_model.specs.EncryptedNames.{lacks_key}
use Rattle.mount_model.specs.WellFormed.{IsWellFormed}
use Rattle.mount_model.specs.Walk.{PathParts}
use Rattle.mount_model.specs.declared.call.Op.TheVariants as op
use Rattle.mount_model.proofs.WellSteps.{step_well}
use Rattle.mount_state.specs.NamesKey.{derived_file_key}
use Rattle.mount_state.specs.Represents.{RepresentsKeys}
use Rattle.mount_names.specs.NameCiphers.{cipher_with, names_cipher}
use Rattle.mount_names.proofs.CipherLemmas.{secret_there, drawn_cipher_is}

present_then : (b : Bool) → not b ≡ false → b ≡ true
present_then true is = refl
present_then false is = sym is

-- ---- the cipher of a node that comes

module _ (m : PlainMount) (n : ℕ) (c : Context) where
  abbrev link : Node
  link = record { named = true; context = Some c; body = Link [] }

  abbrev with_link : PlainMount
  with_link = record m { nodes = insert m.nodes n link }

  link_has : context_at with_link.nodes n ≡ Some c
  link_has = ap context_in (insert_here m.nodes n link)

  keys_stand : (ring : Holding) → RepresentsKeys ring m → RepresentsKeys ring with_link
  keys_stand ring stand = record { claims = stand.claims; secrets = stand.secrets }

  pub coming_cipher : (ring : Holding) → RepresentsKeys ring m → HoldsClaimedSecrets ring → lacks_key m (Some c) ≡ false → (cipher : Option NameCipher)
      → cipher ≡ option_map (cipher_with n c) (derived_file_key ring c) → cipher ≡ Some (names_cipher m.raws n c)
  coming_cipher ring stand secrets holds cipher is =
      drawn_cipher_is with_link n c link_has ring (keys_stand ring stand) cipher is
      (secret_there with_link n c link_has ring (keys_stand ring stand) secrets (present_then _ holds))

-- the policy is that of the directory
pub inherits_key : (m : PlainMount) (nonce : List ℕ) (o : Option Context) → lacks_key m (inherited_context nonce o) ≡ lacks_key m o
inherits_key m nonce None = refl
inherits_key m nonce (Some c) = refl

pub symlink_well : (m : PlainMount) (path : PathParts) (nonce target : List ℕ) → IsWellFormed m → IsPath path → IsTarget target
    → IsWellFormed (answer_to_make m path nonce (Link target)).mount
symlink_well m path nonce target well fits target_fits =
    step_well m 0 (record { uid = 0; op = op.Symlink path target nonce }) (answer_to_make m path nonce (Link target)).reply (answer_to_make m path nonce (Link target)).mount
    well (fits, target_fits) (λ _. tt) (inl (refl, refl))
