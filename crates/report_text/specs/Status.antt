use Rattle.std.specs.Prelude.{ℕ, List, codes}
use Rattle.report_text.specs.declared.status.Status.{Status}
use Rattle.report_text.specs.declared.status.Status.TheVariants as status

-- the characters of a status that is printed (UEFI 2.10, appendix D; out of memory is this project's own)
unfoldable pub status_text : Status → List ℕ
status_text status.Success = codes "SUCCESS"
status_text status.NotFound = codes "NOT_FOUND"
status_text status.BufferTooSmall = codes "BUFFER_TOO_SMALL"
status_text status.InvalidParameter = codes "INVALID_PARAMETER"
status_text status.OutOfResources = codes "OUT_OF_RESOURCES"
status_text status.NoMemory = codes "NO_MEMORY"
status_text status.Unsupported = codes "UNSUPPORTED"
status_text status.WriteProtected = codes "WRITE_PROTECTED"
status_text status.SecurityViolation = codes "SECURITY_VIOLATION"
status_text status.AlreadyStarted = codes "ALREADY_STARTED"
status_text status.DeviceError = codes "DEVICE_ERROR"
