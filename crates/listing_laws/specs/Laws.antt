-- The laws of listings of mounts.
use Rattle.std.specs.Prelude.{◌≡◌, ◌↔◌, ⊤, ℕ, List, Option, None, Some, option_map, Ok}
use Rattle.byte_words.specs.Bytes.{AreBytesOfLength}
use Rattle.policy_ctx.specs.declared.policy.Context.{Context}
use Rattle.fsc_keys.specs.Keys.{key_id_of}
use Rattle.plain_tree.specs.Nodes.{Nodes}
use Rattle.plain_tree.specs.Facts.{EachNode}
use Rattle.mount_model.specs.PlainMount.{PlainMount, Raws, raw_in}
use Rattle.mount_model.specs.WellFormed.{IsWellFormed}
use Rattle.image_lines.specs.Image.{Image}
use Rattle.image_lines.specs.ImageText.{image_text}
use Rattle.image_lines.specs.Reading.{image_read}
use Rattle.image_lines.specs.Rules.{HasGoodChildren, IsImage}
use Rattle.tree_image.specs.Images.{mount_image}
use Rattle.tree_listing.specs.Listing.{IsListing}
use Rattle.listing_laws.specs.Expected.{expected_listing}

-- no other raw key of the same identifier was added
abbrev pub IsOnlyKey : Raws → Option (List ℕ) → Type 0
IsOnlyKey raws None = ⊤
IsOnlyKey raws (Some raw) = (other : List ℕ) → raw_in raws (key_id_of raw) ≡ Some other → other ≡ raw

-- in the image of a mount each entry resolves to a node of its own, other than the root
abbrev pub ChildrenAreGood : Type 0
ChildrenAreGood = (m : PlainMount) → IsWellFormed m → HasGoodChildren (mount_image m)

-- the listing of a mount's image, with a raw key or without one, is what is visible of the mount with that
-- key, or with none
abbrev pub ListingsAreOfMounts : Type 0
ListingsAreOfMounts = (m : PlainMount) → IsWellFormed m →
    (raw : Option (List ℕ)) → IsOnlyKey m.raws raw → (text : List ℕ) →
    IsListing (mount_image m) raw text ↔ (text ≡ expected_listing m (option_map key_id_of raw))

-- each nonce is 16 bytes
abbrev pub HasNonces : Nodes → Type 0
HasNonces nodes = EachNode (λ n v. (c : Context) → v.context ≡ Some c → AreBytesOfLength 16 c.nonce) nodes

-- the image of a mount whose nonces are 16 bytes is an image
abbrev pub MountImagesAreImages : Type 0
MountImagesAreImages = (m : PlainMount) → IsWellFormed m → HasNonces m.nodes → IsImage (mount_image m)

-- and is what is read from its text
abbrev pub MountImagesAreRead : Type 0
MountImagesAreRead = (m : PlainMount) → IsWellFormed m → HasNonces m.nodes
    → image_read (image_text (mount_image m)) ≡ Ok (mount_image m)

-- so what is listed of what is read from that text is what the mount shows
abbrev pub MountImagesListMounts : Type 0
MountImagesListMounts = (m : PlainMount) → IsWellFormed m → HasNonces m.nodes →
    (raw : Option (List ℕ)) → IsOnlyKey m.raws raw → (image : Image) (text : List ℕ) →
    image_read (image_text (mount_image m)) ≡ Ok image → IsListing image raw text →
    text ≡ expected_listing m (option_map key_id_of raw)
