use Rattle.std.proofs.Common.{option_map, sym, subst}
use Rattle.fsc_keys.specs.Keys.{key_id_of}
use Rattle.tree_image.specs.Images.{mount_image}
use Rattle.tree_listing.specs.Listing.{IsListing}
use Rattle.listing_laws.specs.Expected.{expected_listing}
use Rattle.listing_laws.proofs.ListingLemmas.{is_listing}
use Rattle.listing_laws.proofs.laws.listings_are_of_mounts.Goals as goal

pub returns : goal.returns
returns c = λ m well raw only text.
    let own = is_listing m well c.names_come_back.ensures.back c.contents_come_back.ensures c.derived_keys_are_bytes.ensures.sha512 raw only in (
      (λ listing. c.listings_are_one.ensures (mount_image m) raw text (expected_listing m (option_map key_id_of raw)) listing own),
      (λ is. subst (IsListing (mount_image m) raw) (sym is) own),
    )
