use Rattle.std.proofs.Common.{refl}
use Rattle.image_lines.specs.ImageText.{image_text}
use Rattle.tree_image.specs.Images.{mount_image}
use Rattle.listing_laws.proofs.ChildrenLemmas.{good_children}
use Rattle.listing_laws.proofs.RuleLemmas.{mount_image_is}
use Rattle.listing_laws.proofs.laws.mount_images_are_images.Goals as goal

pub returns-clause-images : goal.returns-clause-images
returns-clause-images c = λ m well nonces.
    mount_image_is c.names_come_back.ensures.fit c.names_come_back.ensures.bytes c.derived_keys_are_bytes.ensures.sha512 m well nonces

pub returns-clause-children : goal.returns-clause-children
returns-clause-children c = λ m well. good_children m well.nodes.tree

pub returns-clause-read : goal.returns-clause-read
returns-clause-read c = λ m well nonces.
    (c.images_are_texts.ensures (image_text (mount_image m)) (mount_image m)).1 (returns-clause-images c m well nonces, refl)
