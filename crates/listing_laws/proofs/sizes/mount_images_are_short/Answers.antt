use Rattle.listing_laws.proofs.SizeLemmas.{mount_image_short}
use Rattle.listing_laws.proofs.sizes.mount_images_are_short.Goals as goal

pub returns : goal.returns
returns c = λ m well nonces.
    mount_image_short m (c.mount_images_are_images.ensures.images m well nonces) well
