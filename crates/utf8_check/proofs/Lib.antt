mod ScanLaws
mod FollowingLaws
mod PassLaws
mod ResumeLaws
