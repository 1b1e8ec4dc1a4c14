-- What an image is: rules on each node and on the order of nodes, and rules on the nodes to which entries
-- refer.
use Rattle.std.specs.Prelude.{◌≡◌, ◌≢◌, nat_eq, [], ◌∷◌, None, All, Contains}
use Rattle.std.specs.List.{IsDistinct}
use Rattle.std.specs.List.Sorted.{IsStrictlySortedBy}
use Rattle.std.specs.Ordering.{nat_cmp}
use Rattle.disk_tree.specs.Nodes.{IsDir}
use Rattle.image_lines.specs.Image.{Image, numbers_of, children_of}
use Rattle.image_lines.specs.NodeRules.{IsNode}

-- the root is first: node 0, a directory without context
abbrev pub BeginsWithRoot : Image → Type 0
BeginsWithRoot [] = ⊥
BeginsWithRoot (root ∷ nodes) = (root.number ≡ 0) × (root.context ≡ None) × IsDir root.body

-- the rules on lines: each node is one, the root is first, and numbers rise
pub record HasGoodLines (image : Image) : Type 0 where
  pub root : BeginsWithRoot image
  pub rising : IsStrictlySortedBy nat_cmp (numbers_of image)
  pub each : All IsNode image

-- the rules on children: each entry refers to a node of the image that is not the root, and no two entries
-- to the same one
pub record HasGoodChildren (image : Image) : Type 0 where
  pub there : All (λ child. (child ≢ 0) × Contains (numbers_of image) child) (children_of image)
  pub once : IsDistinct nat_eq (children_of image)

pub record IsImage (image : Image) : Type 0 where
  pub lines : HasGoodLines image
  pub children : HasGoodChildren image
