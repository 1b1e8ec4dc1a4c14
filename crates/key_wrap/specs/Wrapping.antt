-- Wrapping a secret under a key of 32 bytes and an iv of 16, as the fscrypt tool does.
use Rattle.std.specs.Prelude.{ℕ, List, [], ◌++◌, take, drop, Option, Some, None, if◌then◌else◌}
use Rattle.std.specs.Str.{bytes_eq}
use Rattle.aes_core.specs.Aes.{encrypted_block}
use Rattle.hmac_kdf.specs.Hmac.{hmac_sha256}
use Rattle.hmac_kdf.specs.Hkdf.{hkdf_sha256}
use Rattle.key_wrap.specs.CounterMode.{counter_mode}

-- the key stretched to 64 bytes by HKDF-SHA256, without salt and info
unfoldable pub stretched_key : List ℕ → List ℕ
stretched_key key = hkdf_sha256 [] key [] 64

-- the first 32 bytes encrypt
unfoldable pub cipher_key : List ℕ → List ℕ
cipher_key key = take 32 (stretched_key key)

-- the last 32 authenticate
unfoldable pub tag_key : List ℕ → List ℕ
tag_key key = drop 32 (stretched_key key)

-- a buffer for both keys, as the code holds them: it may contain other bytes too, such as zeros
pub record TwoKeys : Type 0 where
  pub cipher : List ℕ
  pub tag_key : List ℕ

-- AES-256 in counter mode, which encrypts and decrypts
unfoldable pub ciphered : List ℕ → List ℕ → List ℕ → List ℕ
ciphered key iv text = counter_mode (encrypted_block (cipher_key key)) iv text

-- the tag: HMAC-SHA256 over the iv and the ciphertext
unfoldable pub tag_of : List ℕ → List ℕ → List ℕ → List ℕ
tag_of key iv ciphertext = hmac_sha256 (tag_key key) (iv ++ ciphertext)

-- the ciphertext and its tag
unfoldable pub wrapped_secret : List ℕ → List ℕ → List ℕ → List ℕ × List ℕ
wrapped_secret key iv secret = (ciphered key iv secret, tag_of key iv (ciphered key iv secret))

-- the secret, if the tag is that of the iv and the ciphertext; else nothing
unfoldable pub opened_secret : List ℕ → List ℕ → List ℕ → List ℕ → Option (List ℕ)
opened_secret key iv ciphertext tag =
    if bytes_eq tag (tag_of key iv ciphertext) then Some (ciphered key iv ciphertext) else None
