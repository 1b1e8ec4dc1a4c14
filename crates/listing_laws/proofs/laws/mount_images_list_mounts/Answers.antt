use Rattle.std.proofs.Common.{◌≡◌, subst}
use Rattle.image_lines.specs.Image.{Image}
use Rattle.tree_image.specs.Images.{mount_image}
use Rattle.tree_listing.specs.Listing.{IsListing}
use Rattle.listing_laws.proofs.laws.mount_images_list_mounts.Goals as goal

pub returns : goal.returns
returns c = λ m well nonces raw only image text read listing.
    let again = c.mount_images_are_images.ensures.read m well nonces in
    let same : image ≡ mount_image m = cc (read, again) in
    (c.listings_are_of_mounts.ensures m well raw only text).0 (subst (λ (i : Image). IsListing i raw text) same listing)
