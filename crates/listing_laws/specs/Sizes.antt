-- How many bytes the image of a mount has.
use Rattle.std.specs.Prelude.{◌≤◌, ◌<◌, ℕ, ◌+◌, ◌-◌, ◌*◌, length}
use Rattle.mount_limits.specs.declared.TheConstants.{MAX_NODES, MAX_BLOCKS}
use Rattle.mount_model.specs.PlainMount.{PlainMount}
use Rattle.mount_model.specs.WellFormed.{IsWellFormed}
use Rattle.image_lines.specs.ImageText.{image_text}
use Rattle.image_lines.specs.declared.TheConstants.{MAX_IMAGE_BYTES}
use Rattle.tree_image.specs.Images.{mount_image}
use Rattle.listing_laws.specs.Laws.{HasNonces}
use Rattle.listing_laws.specs.declared.sizes.TheConstants.{MAX_MOUNT_IMAGE_BYTES}

-- the maximal number of bytes of an image of that many nodes and blocks: 12 of its first line, 613 of the
-- line of a node, 528 of that of an entry, and 8,199 of that of a block. At most one entry resolves to each
-- node but the root
abbrev pub max_image_bytes : ℕ → ℕ → ℕ
max_image_bytes nodes blocks = 12 + nodes * 613 + (nodes - 1) * 528 + blocks * 8199

-- the image of a mount has at most as many bytes as one of the maximal numbers of nodes and blocks, and
-- fewer than a text that is read as an image may have
pub record IsShort (m : PlainMount) : Type 0 where
  pub counted : length (image_text (mount_image m)) ≤ max_image_bytes MAX_NODES MAX_BLOCKS
  pub most : length (image_text (mount_image m)) ≤ MAX_MOUNT_IMAGE_BYTES
  pub read : length (image_text (mount_image m)) < MAX_IMAGE_BYTES

abbrev pub MountImagesAreShort : Type 0
MountImagesAreShort = (m : PlainMount) → IsWellFormed m → HasNonces m.nodes → IsShort m
